use Rattle.std.proofs.Common.{drop, ◌≡◌, ◌≤◌}
use Rattle.hd_plain.specs.Inside.{no_fates, pass, settled_one, settled_to, is_marked}
use Rattle.hd_plain.proofs.collecting.settle.Given as goal

abbrev pub invariant-loop-id : goal.invariant-loop-id
invariant-loop-id l =
    (pass (settled_one l.n (is_marked l.decided.reached) (is_marked l.decided.kept))
    (settled_to l.objects l.queue.items l.fates) (drop l.id-index l.ids)
    ≡ pass (settled_one l.n (is_marked l.decided.reached) (is_marked l.decided.kept))
    (settled_to l.initial.objects l.initial.queue.items no_fates) l.ids)
    × (l.fates.kept ≤ l.id-index) × (l.fates.removed ≤ l.id-index) × (l.fates.revived ≤ l.id-index)
