use Rattle.std.proofs.Common.{take, ◌++◌, ◌≡◌}
use Rattle.std.specs.Prelude.{flat_map}
use Rattle.std.specs.List.{enumerate_from}
use Rattle.hd_show.specs.Registers.{object_register}
use Rattle.hd_show.proofs.registers.push_caller_objects.Given as goal

abbrev pub invariant-loop-i : goal.invariant-loop-i
invariant-loop-i l =
    l.text ≡ l.fn.text ++ flat_map (object_register l.caller) (enumerate_from 0 (take l.i l.objects))
