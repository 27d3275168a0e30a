use Rattle.std.proofs.Common.{take, ◌≡◌}
use Rattle.hd_snapshot.proofs.roots.registers.Given as goal

-- as many of them as were read
abbrev pub invariant-loop-caller : goal.invariant-loop-caller
invariant-loop-caller l = l.seen.items ≡ take l.caller l.store.state.registers
