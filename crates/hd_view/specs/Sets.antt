-- Sets of numbers, by ranges.
use Rattle.std.specs.Prelude.{ℕ, ◌≤◌, ◌⊎◌, List, [], ◌∷◌}
use Rattle.hd_view.specs.declared.sets.NumberSet.{NumberSet}
use Rattle.hd_view.specs.declared.sets.Range.{Range}

-- a number is in one of some ranges
abbrev pub IsIn : List Range → ℕ → Type 0
IsIn [] x = ⊥
IsIn (r ∷ rs) x = ((r.first ≤ x) × (x ≤ r.last)) ⊎ IsIn rs x

-- and it is in a set: in one of the ranges that are within, and in none of the others
pub record IsMember (set : NumberSet) (x : ℕ) : Type 0 where
  pub within : IsIn set.within.items x
  pub but : IsIn set.but.items x → ⊥
