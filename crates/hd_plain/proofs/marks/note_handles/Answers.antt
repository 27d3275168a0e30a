use Rattle.std.proofs.Common.{ap, drop, map, sym, ◌+◌, ◌∙◌}
use Rattle.std.proofs.lemmas.List.{at_drop_all, at_drop_more}
use Rattle.std.specs.FinMap.{get}
use Rattle.hd_plain.specs.Marked.{Marked}
use Rattle.hd_plain.specs.Inside.{with_targets, young_held}
use Rattle.hd_plain.proofs.AttachedLists.{rest_last, rest_next}
use Rattle.hd_plain.proofs.marks.note_handles.Goals as goal

pub loop-slot-preserved : goal.loop-slot-preserved
loop-slot-preserved c =
    let handles = c.args.table.now.handles in
    let held = young_held c.args.sight.now.n c.args.sight.now.objects.now handles in
    let slots = c.args.slots.now in (
      ap (λ (m : Marked). with_targets m (map held (drop (c.loop-slot.slot-index + 1) slots)))
          c.in_ok-note_handle.ensures.held
          ∙ sym (at_drop_more (λ l. with_targets c.loop-slot.marks (map held l)) slots
          c.loop-slot.slot-index 0 c.loop-slot-test.true) ∙ c.loop-slot.invariant.0,
      rest_next (get handles) slots c.loop-slot.slot-index c.args.attached.now c.loop-slot.attached
          c.note_handle.new.attached c.loop-slot.invariant.1 c.loop-slot-test.true
          c.in_ok-note_handle.ensures.pairs,
    )

pub returns-clause-held : goal.returns-clause-held
returns-clause-held c =
    sym (at_drop_all (λ l. with_targets c.loop-slot.marks (map (young_held c.args.sight.now.n c.args.sight.now.objects.now c.args.table.now.handles) l))
    c.args.slots.now c.loop-slot.slot-index c.loop-slot-test.false) ∙ c.loop-slot.invariant.0

pub returns-clause-pairs : goal.returns-clause-pairs
returns-clause-pairs c =
    rest_last (get c.args.table.now.handles) c.args.slots.now c.loop-slot.slot-index c.args.attached.now
    c.loop-slot.attached c.loop-slot.invariant.1 c.loop-slot-test.false
