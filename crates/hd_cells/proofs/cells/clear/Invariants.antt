use Rattle.hd_cells.proofs.Basics.{get_or, ℕ, ◌<◌, ◌≡◌, ◌≤◌}
use Rattle.hd_cells.proofs.cells.clear.Given as goal

abbrev pub invariant-loop-k : goal.invariant-loop-k
invariant-loop-k l =
    ((k : ℕ) → l.from ≤ k → k < l.k → get_or l.cells k 0 ≡ 0)
    × ((k : ℕ) → k < l.from → get_or l.cells k 0 ≡ get_or l.initial.cells k 0)
    × ((k : ℕ) → l.to ≤ k → get_or l.cells k 0 ≡ get_or l.initial.cells k 0)
