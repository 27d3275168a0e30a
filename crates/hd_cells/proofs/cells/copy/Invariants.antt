use Rattle.hd_cells.proofs.Basics.{HEADER, get_or, ℕ, ◌+◌, ◌<◌, ◌≡◌, ◌≤◌}
use Rattle.hd_cells.proofs.cells.copy.Given as goal

abbrev pub invariant-loop-i : goal.invariant-loop-i
invariant-loop-i l =
    ((j : ℕ) → j < HEADER + l.i → get_or l.cells (l.at + j) 0 ≡ get_or l.object j 0)
    × ((j : ℕ) → j < l.at → get_or l.cells j 0 ≡ get_or l.fn.cells j 0)
    × ((j : ℕ) → l.at + HEADER + l.fields ≤ j → get_or l.cells j 0 ≡ get_or l.fn.cells j 0)
