use Rattle.std.proofs.Common.{drop, map, ◌≡◌}
use Rattle.std.specs.FinMap.{get}
use Rattle.hd_plain.specs.Inside.{with_targets, young_held}
use Rattle.hd_plain.proofs.AttachedLists.{AddsRest}
use Rattle.hd_plain.proofs.marks.note_handles.Given as goal

abbrev pub invariant-loop-slot : goal.invariant-loop-slot
invariant-loop-slot l =
    (with_targets l.marks (map (young_held l.sight.n l.sight.objects.now l.table.handles) (drop l.slot-index l.slots))
    ≡ with_targets l.initial.marks (map (young_held l.sight.n l.sight.objects.now l.table.handles) l.slots))
    × AddsRest (get l.table.handles) l.slots l.slot-index l.initial.attached l.attached
