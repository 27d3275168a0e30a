use Rattle.std.proofs.Common.{◌≡◌, take}
use Rattle.hd_io.proofs.calls.CallCount.new.Given as goal

-- the numbers so far
abbrev pub invariant-loop-number : goal.invariant-loop-number
invariant-loop-number l = l.numbers.items ≡ take l.number-index l.failing
