use Rattle.std.proofs.Common.{take, ◌++◌, ◌≡◌}
use Rattle.std.specs.Prelude.{flat_map}
use Rattle.std.specs.List.{enumerate_from}
use Rattle.hd_talk.specs.Slots.{caller_lines}
use Rattle.hd_talk.proofs.holders.push_callers.Given as goal

abbrev pub invariant-loop-caller : goal.invariant-loop-caller
invariant-loop-caller l =
    l.text.items
    ≡ l.fn.text.items ++ flat_map (caller_lines l.slot.0) (enumerate_from 0 (take l.caller l.registers))
