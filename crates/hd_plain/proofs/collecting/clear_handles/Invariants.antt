use Rattle.std.proofs.Common.{drop, ◌≡◌, ◌≤◌}
use Rattle.hd_plain.specs.Inside.{cleared_one, cleared_to, no_losses, pass, is_seen}
use Rattle.hd_plain.proofs.collecting.clear_handles.Given as goal

abbrev pub invariant-loop-slot : goal.invariant-loop-slot
invariant-loop-slot l =
    (pass (cleared_one (is_seen l.sight l.decided.reached) (is_seen l.sight l.decided.kept))
    (cleared_to l.table.handles l.losses) (drop l.slot-index l.slots)
    ≡ pass (cleared_one (is_seen l.sight l.decided.reached) (is_seen l.sight l.decided.kept))
    (cleared_to l.initial.table.handles no_losses) l.slots)
    × (l.table ≡ record l.initial.table { handles = l.table.handles })
    × (l.losses.short ≤ l.slot-index) × (l.losses.long ≤ l.slot-index) × (l.losses.dep ≤ l.slot-index)
