use Rattle.std.proofs.Common.{length, ◌≡◌}
use Rattle.hd_view.specs.Stated.{after_digits, after_number}
use Rattle.hd_view.proofs.stated.after_number.Given as goal

abbrev pub invariant-bytes : goal.invariant-bytes
invariant-bytes l = after_digits l.is_number l.rest ≡ after_number l.bytes

abbrev pub decreases-bytes : goal.decreases-bytes
decreases-bytes l = length l.rest
