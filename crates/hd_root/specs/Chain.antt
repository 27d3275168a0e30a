-- A shortest chain as a list of objects.
use Rattle.std.specs.Prelude.{◌≡◌, ℕ, ◌+◌, List, [], ◌∷◌, length}
use Rattle.hd_model.specs.Anchors.{IsShortest}

-- a list is a chain of edges from x to z
pub data IsPath {N : Type 0} (E : N → N → Type 0) : N → List N → N → Type 0 where
  one : {x : N} → IsPath E x (x ∷ []) x
  more : {x y z : N} {path : List N} → E x y → IsPath E y path z → IsPath E x (x ∷ path) z

-- a list is a shortest chain from an anchor to the goal, and begins at the least anchor that one can begin at
pub record IsLeastChain {N : Type 0} (E : N → N → Type 0) (Anchor : N → Type 0) (rank : N → ℕ) (goal : N)
    (chain : List N) : Type 0 where
  pub from : N
  pub edges : ℕ
  pub path : IsPath E from chain goal
  pub size : length chain ≡ edges + 1
  pub shortest : IsShortest E Anchor rank goal from edges
