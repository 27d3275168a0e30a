use Rattle.std.proofs.Common.{drop, map, ◌≡◌}
use Rattle.hd_plain.specs.Inside.{is_marked, with_targets, resurrected_at}
use Rattle.hd_plain.proofs.machine.Machine.mark_resurrected.Given as goal

abbrev pub invariant-loop-id : goal.invariant-loop-id
invariant-loop-id l =
    with_targets l.marks
    (map (resurrected_at l.n (is_marked l.reached) l.self.state.objects) (drop l.id-index l.ids))
    ≡ with_targets l.initial.marks
    (map (resurrected_at l.n (is_marked l.reached) l.self.state.objects) l.ids)
