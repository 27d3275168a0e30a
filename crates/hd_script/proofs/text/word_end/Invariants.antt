use Rattle.hd_script.proofs.Basics.{false, get_or, is_stop, length, ℕ, ◌-◌, ◌<◌, ◌≡◌, ◌≤◌}
use Rattle.hd_script.proofs.text.word_end.Given as goal

-- no byte so far is a stop
abbrev pub invariant-bytes : goal.invariant-bytes
invariant-bytes l =
    (l.end ≤ length l.bytes) × ((k : ℕ) → k < l.end → is_stop (get_or l.bytes k 0) ≡ false)

abbrev pub decreases-bytes : goal.decreases-bytes
decreases-bytes l = length l.bytes - l.end
