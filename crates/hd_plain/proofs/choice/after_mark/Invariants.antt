use Rattle.std.proofs.Common.{length, ◌≡◌}
use Rattle.hd_plain.specs.Choice.{after_mark}
use Rattle.hd_plain.proofs.choice.after_mark.Given as goal

-- what is left has the same bytes after its first mark
abbrev pub invariant-bytes : goal.invariant-bytes
invariant-bytes l = after_mark l.mark l.rest ≡ after_mark l.mark l.bytes

abbrev pub decreases-bytes : goal.decreases-bytes
decreases-bytes l = length l.rest
