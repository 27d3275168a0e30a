-- What private clauses alone cite.
use Rattle.std.specs.Prelude.{◌≡◌, ℕ, Bool, List, length}
use Rattle.hd_walk.specs.Trail.{found_by, is_found, IsOnce}

-- what is always true of a trail, whose set of nodes has this test
pub record IsTrail (nodes marks : List ℕ) (has : ℕ → Bool) : Type 0 where
  pub marked : length marks ≡ length nodes
  pub among : (q : ℕ) → has q ≡ is_found (found_by nodes marks) q
  pub once : IsOnce (found_by nodes marks)
