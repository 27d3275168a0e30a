use Rattle.std.proofs.Common.{take, ◌++◌, ◌≡◌}
use Rattle.std.specs.Prelude.{flat_map}
use Rattle.std.specs.List.{enumerate_from}
use Rattle.hd_talk.specs.Slots.{register_line}
use Rattle.hd_talk.proofs.holders.push_caller.Given as goal

abbrev pub invariant-loop-d : goal.invariant-loop-d
invariant-loop-d l =
    l.text.items
    ≡ l.fn.text.items ++ flat_map (register_line l.slot.0 l.caller) (enumerate_from 0 (take l.d l.registers))
