use Rattle.std.proofs.Common.{take, ℕ, ◌-◌, ◌<◌, ◌^◌, ◌≤◌}
use Rattle.std.specs.Prelude.{◌↔◌}
use Rattle.hd_view.specs.Sets.{IsIn}
use Rattle.hd_view.proofs.AddressSets.{MeetsSome}
use Rattle.hd_view.proofs.accepted.free_addresses.Given as goal

abbrev pub invariant-loop-cells : goal.invariant-loop-cells
invariant-loop-cells l =
    ((x : ℕ) → IsIn l.set.within.items x ↔ (x ≤ 2 ^ 32 - 1))
    × ((x : ℕ) → x < 2 ^ 32 → IsIn l.set.but.items x
    ↔ MeetsSome (take l.cells-index l.cells-items) l.size x)
