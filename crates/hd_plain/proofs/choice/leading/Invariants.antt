use Rattle.std.proofs.Common.{drop, ◌≡◌}
use Rattle.hd_plain.specs.Choice.{leading, leading_from}
use Rattle.hd_plain.proofs.choice.leading.Given as goal

-- the bytes that are left, after the digits so far, begin with the same number
abbrev pub invariant-loop-b : goal.invariant-loop-b
invariant-loop-b l = leading_from l.value (drop l.b-index l.bytes) ≡ leading l.bytes
