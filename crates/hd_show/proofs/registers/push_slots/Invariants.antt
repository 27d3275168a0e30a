use Rattle.std.proofs.Common.{take, ◌++◌, ◌≡◌}
use Rattle.std.specs.Prelude.{flat_map}
use Rattle.std.specs.List.{enumerate_from}
use Rattle.hd_show.specs.Registers.{caller_slots}
use Rattle.hd_show.proofs.registers.push_slots.Given as goal

abbrev pub invariant-loop-i : goal.invariant-loop-i
invariant-loop-i l =
    l.text ≡ l.fn.text ++ flat_map caller_slots (enumerate_from 0 (take l.i l.slots))
