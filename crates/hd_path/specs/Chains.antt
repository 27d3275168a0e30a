-- Chains of edges between numbered nodes, and the least of the shortest ones.
use Rattle.std.specs.Prelude.{◌≡◌, ℕ, ◌<◌, ◌≤◌, List, [], ◌∷◌, length}
use Rattle.hd_walk.specs.Chains.{IsWalk}

-- one list of nodes comes before another of the same length, or is the same
pub data IsNoGreater : List ℕ → List ℕ → Type 0 where
  none : IsNoGreater [] []
  less : {x y : ℕ} {xs ys : List ℕ} → x < y → IsNoGreater (x ∷ xs) (y ∷ ys)
  same : {x y : ℕ} {xs ys : List ℕ} → x ≡ y → IsNoGreater xs ys → IsNoGreater (x ∷ xs) (y ∷ ys)

-- a chain from a start
pub record IsChain (Leads : ℕ → ℕ → Type 0) (Starts : ℕ → Type 0) (goal first : ℕ) (rest : List ℕ) : Type 0
  where
    pub start : Starts first
    pub walk : IsWalk Leads goal first rest

-- no chain is shorter, and none of its length comes before it
pub record IsLeastChain (Leads : ℕ → ℕ → Type 0) (Starts : ℕ → Type 0) (goal first : ℕ) (rest : List ℕ)
    : Type 0 where
  pub chain : IsChain Leads Starts goal first rest
  pub shortest : (other : ℕ) (more : List ℕ) → IsChain Leads Starts goal other more → length rest ≤ length
      more
  pub least : (other : ℕ) (more : List ℕ) → IsChain Leads Starts goal other more
      → length more ≡ length rest → IsNoGreater (first ∷ rest) (other ∷ more)

-- no chain leads to the goal
abbrev pub HasNoChain : (ℕ → ℕ → Type 0) → (ℕ → Type 0) → ℕ → Type 0
HasNoChain Leads Starts goal = (first : ℕ) (rest : List ℕ) → IsChain Leads Starts goal first rest → ⊥
