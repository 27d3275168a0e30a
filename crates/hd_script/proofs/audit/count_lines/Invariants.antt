use Rattle.hd_script.proofs.Basics.{length, ◌+◌, ◌≡◌, ◌≤◌}
use Rattle.hd_model.specs.RunTexts.{cut_lines}
use Rattle.hd_script.proofs.audit.count_lines.Given as goal

-- the lines so far and those that are left are all, and each has a byte
abbrev pub invariant-lines : goal.invariant-lines
invariant-lines l = (l.count + length (cut_lines l.rest) ≡ length (cut_lines l.bytes))
    × (l.count + length l.rest ≤ length l.bytes)

abbrev pub decreases-lines : goal.decreases-lines
decreases-lines l = length l.rest
