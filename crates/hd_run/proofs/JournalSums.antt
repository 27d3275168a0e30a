-- Sums over a journal, entry by entry.
use Rattle.hd_run.proofs.Basics.{Entry, List, Some, ap, arith, get_or_from_slice_get, length, slice_get, sum_by, sum_by-take-le, sum_by_more, take, ℕ, ◌+◌, ◌<◌, ◌∙◌, ◌≡◌, ◌≤◌}

module _ (f : Entry → ℕ) (xs : List Entry) (i : ℕ) (e : Entry) (lt : i < length xs)
    (here : slice_get xs i ≡ Some e) where
  pub sum_more : sum_by f (take (i + 1) xs) ≡ sum_by f (take i xs) + f e
  sum_more = sum_by_more f xs i e lt
      ∙ ap (λ (x : Entry). sum_by f (take i xs) + f x) (get_or_from_slice_get xs i e e here)

  pub sum_fits : sum_by f (take i xs) + f e ≤ sum_by f xs
  sum_fits = omega (arith, sum_more, sum_by-take-le f xs (i + 1))
