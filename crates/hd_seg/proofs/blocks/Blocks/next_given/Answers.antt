use Rattle.hd_seg.proofs.Basics.{Uses, ap, arith, get, refl}
use Rattle.hd_seg.proofs.GivenBlocks.{given_by, next_here, none_past}
use Rattle.hd_seg.proofs.blocks.Blocks.next_given.Goals as goal

pub returns-then-from-last-clause-next : goal.returns-then-from-last-clause-next
returns-then-from-last-clause-next c =
    none_past c.self.invariant.0 c.self.view_is c.args.from (omega (arith, c.if-from-last.true))

pub kind-requires-clause-high : goal.kind-requires-clause-high
kind-requires-clause-high c = omega (arith, c.if-from-last.false, ap (λ (u : Uses). u.table.blocks) c.self.view_is)

pub returns-in-Rows-clause-next : goal.returns-in-Rows-clause-next
returns-in-Rows-clause-next c =
    next_here (given_by (get c.args.self.now.table.uses c.args.from) _ c.in-Rows.ensures refl)

pub returns-in-Rows-clause-within : goal.returns-in-Rows-clause-within
returns-in-Rows-clause-within c = omega (arith, c.if-from-last.false, ap (λ (u : Uses). u.table.blocks) c.self.view_is)

pub returns-in-Extras-clause-next : goal.returns-in-Extras-clause-next
returns-in-Extras-clause-next c =
    next_here (given_by (get c.args.self.now.table.uses c.args.from) _ c.in-Extras.ensures refl)

pub returns-in-Extras-clause-within : goal.returns-in-Extras-clause-within
returns-in-Extras-clause-within c = omega (arith, c.if-from-last.false, ap (λ (u : Uses). u.table.blocks) c.self.view_is)
