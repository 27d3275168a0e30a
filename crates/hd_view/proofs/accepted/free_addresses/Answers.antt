use Rattle.std.proofs.Common.{List, arith, length, subst, ◌≤◌, sym}
use Rattle.std.specs.Prelude.{◌↔◌}
use Rattle.hd_audit.specs.Before.{AreTaken}
use Rattle.hd_audit.specs.declared.entry_choice.PinnedCells.{PinnedCells}
use Rattle.std.proofs.lemmas.List.{take_all}
use Rattle.hd_view.specs.Sets.{IsIn}
use Rattle.hd_view.proofs.AddressSets.{MeetsSome, addresses_has, all_within, meets_next, meets_start, taken_some}
use Rattle.hd_view.proofs.accepted.free_addresses.Goals as goal

abbrev none : PinnedCells
none = record { first = 0; count = 0 }

pub loop-cells-init : goal.loop-cells-init
loop-cells-init c = (
  all_within c.open-set.result.within.items c.add_range.new.ranges.items c.open-set.ensures.within
      c.in_ok-add_range.ensures,
  λ x _. meets_start c.size-size.result c.open-set.result.but.items c.open-set.ensures.but x,
)

pub add_meeting-requires-clause-some : goal.add_meeting-requires-clause-some
add_meeting-requires-clause-some c =
    taken_some c.args.before.now.state c.deref-cells-items.result.now
    (subst (AreTaken c.args.before.now.state) (sym c.deref-cells-items.ensures.value) c.in_ok-pinned.ensures)
    c.loop-cells.cells-index none c.loop-cells-test.true

pub loop-cells-preserved : goal.loop-cells-preserved
loop-cells-preserved c = (
  c.loop-cells.invariant.0,
  meets_next c.deref-cells-items.result.now c.loop-cells.cells-index c.size-size.result none
      c.loop-cells.set.but.items c.add_meeting.new.ranges.items c.loop-cells-test.true
      c.loop-cells.invariant.1 c.in_ok-add_meeting.ensures,
)

pub returns : goal.returns
returns c =
    let s = c.args.before.now.state in
    let cells = c.deref-cells-items.result.now in
    let size = c.size-size.result in
    let end : length cells ≤ c.loop-cells.cells-index = omega arith in
    addresses_has s c.args.id size c.loop-cells.set cells c.size-size.ensures.value
    (subst (AreTaken s) (sym c.deref-cells-items.ensures.value) c.in_ok-pinned.ensures)
    c.loop-cells.invariant.0
    (λ x small. subst (λ (l : List PinnedCells). IsIn c.loop-cells.set.but.items x ↔ MeetsSome l size x)
    (take_all c.loop-cells.cells-index cells end) (c.loop-cells.invariant.1 x small))
