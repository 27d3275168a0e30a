use Rattle.std.proofs.Common.{drop, ◌≡◌}
use Rattle.hd_plain.specs.Inside.{pass, without_one, is_marked}
use Rattle.hd_plain.proofs.collecting.unpin.Given as goal

abbrev pub invariant-loop-id : goal.invariant-loop-id
invariant-loop-id l =
    pass (without_one (is_marked l.pinned)) l.addresses (drop l.id-index l.ids)
    ≡ pass (without_one (is_marked l.pinned)) l.initial.addresses l.ids
