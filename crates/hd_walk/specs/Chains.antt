-- Chains of edges as lists, and an order of chains: by length, then by their starts, then node by node.
use Rattle.std.specs.Prelude.{ℕ, List, [], ◌∷◌}

-- edges lead from a node to each node of a list in turn, and the last one is the goal
pub data IsWalk (Leads : ℕ → ℕ → Type 0) (goal : ℕ) : ℕ → List ℕ → Type 0 where
  arrived : IsWalk Leads goal goal []
  onward : {x y : ℕ} {rest : List ℕ} → Leads x y → IsWalk Leads goal y rest → IsWalk Leads goal x (y ∷ rest)
