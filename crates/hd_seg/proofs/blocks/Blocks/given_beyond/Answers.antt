use Rattle.hd_seg.proofs.Basics.{Uses, ap, arith}
use Rattle.hd_seg.proofs.GivenBlocks.{next_is, none_is}
use Rattle.hd_seg.proofs.blocks.Blocks.given_beyond.Goals as goal

pub returns-then-block-last-clause-next : goal.returns-then-block-last-clause-next
returns-then-block-last-clause-next c =
    next_is c.self.invariant.0 c.self.view_is c.self.invariant.2 c.requires c.gap_from-block.ensures
    (omega (arith, c.if-block-last.true))

pub returns-then-block-last-clause-within : goal.returns-then-block-last-clause-within
returns-then-block-last-clause-within c =
    omega (arith, c.if-block-last.true, ap (λ (u : Uses). u.table.blocks) c.self.view_is)

pub returns-else-block-last-clause-next : goal.returns-else-block-last-clause-next
returns-else-block-last-clause-next c =
    none_is c.self.invariant.0 c.self.view_is c.self.invariant.2 c.requires c.gap_from-block.ensures
    (omega (arith, c.if-block-last.false))
