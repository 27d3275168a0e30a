use Rattle.hd_scan.proofs.Basics.{ROWS, entries_of, root_by, roots_in, row_at, ◌*◌, ◌≡◌}
use Rattle.hd_scan.proofs.gathering.roots_of_block.Given as goal

-- the roots of the rows so far
abbrev pub invariant-loop-row : goal.invariant-loop-row
invariant-loop-row l = l.roots.items ≡ roots_in root_by (entries_of (ROWS * l.block) l.row (row_at l.seg))
