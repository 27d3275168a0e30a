use Rattle.std.proofs.Common.{◌+◌, ◌≡◌}
use Rattle.hd_view.specs.Inside.{CoversTo}
use Rattle.hd_view.proofs.accepted.free_slots.Given as goal

abbrev pub invariant-loop-block : goal.invariant-loop-block
invariant-loop-block l =
    CoversTo l.before.state l.kind l.block l.set × (l.block-end ≡ l.before.numbers.blocks + 1)
