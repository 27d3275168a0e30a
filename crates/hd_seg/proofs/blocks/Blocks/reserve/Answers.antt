use Rattle.hd_seg.proofs.Basics.{Block, IsBlocks, IsTable, List, Uses, ap, arith, subst, sym, uses_in, ◌∙◌, ◌≤◌}
use Rattle.hd_seg.proofs.ChainLinks.{is_table}
use Rattle.hd_seg.proofs.MoreBlocks.{blocks-more, unused-more, view-more}
use Rattle.hd_seg.specs.Chains.{ChainLists}
use Rattle.hd_seg.proofs.blocks.Blocks.reserve.Goals as goal

pub returns-then-number-self-clause-table : goal.returns-then-number-self-clause-table
returns-then-number-self-clause-table c =
    subst (λ (u : Uses). IsTable u.table) c.self.view_is (is_table c.self.invariant.0)

pub returns-in_err-reserve-clause-table : goal.returns-in_err-reserve-clause-table
returns-in_err-reserve-clause-table c = is_table c.self.invariant.0

pub returns-in_err-reserve-2-clause-table : goal.returns-in_err-reserve-2-clause-table
returns-in_err-reserve-2-clause-table c =
    subst (λ (s : ChainLists). IsTable (uses_in c.self.inside.number c.self.inside.table.items s.lists).table)
    (sym c.in_err-reserve-2.ensures) (is_table c.self.invariant.0)

pub returns-in_err-lengthen-clause-table : goal.returns-in_err-lengthen-clause-table
returns-in_err-lengthen-clause-table c =
    subst (λ (s : ChainLists). IsTable (uses_in c.self.inside.number c.lengthen.new.items.items s.lists).table)
    (sym c.in_ok-reserve-2.ensures)
    (subst (λ (bs : List Block). IsTable (uses_in c.self.inside.number bs c.self.inside.chains.lists).table)
    (sym c.in_err-lengthen.ensures) (is_table c.self.invariant.0))

pub invariant_of-self-2 : goal.invariant_of-self-2
invariant_of-self-2 c =
    let up : c.self.inside.number ≤ c.args.number = omega (arith, c.if-number-self.false) in (
      subst (λ (s : ChainLists). IsBlocks c.args.number c.self.inside.given c.lengthen.new.items.items s.lists)
          (sym c.in_ok-reserve-2.ensures)
          (blocks-more c.self.invariant.0 c.requires up c.in_ok-lengthen.ensures),
      omega (arith, ap (λ (s : ChainLists). s.room) c.in_ok-reserve-2.ensures),
      unused-more c.self.invariant.0 c.requires up c.in_ok-lengthen.ensures _ c.self.invariant.2
          c.in_ok-reserve.ensures (omega arith) c.add_numbers.ensures,
    )

pub returns-clause-after : goal.returns-clause-after
returns-clause-after c =
    ap (λ (s : ChainLists). uses_in c.args.number c.lengthen.new.items.items s.lists) c.in_ok-reserve-2.ensures
    ∙ view-more c.self.invariant.0 c.requires (omega (arith, c.if-number-self.false)) c.in_ok-lengthen.ensures
    c.self.view_is

pub returns-clause-table : goal.returns-clause-table
returns-clause-table c = is_table (invariant_of-self-2 c).0
