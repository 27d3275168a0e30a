-- The elements of a list by their indices.
use Rattle.std.proofs.Common.{◌≡◌, ℕ, zero, suc, ◌+◌, ◌<◌, List, [], ◌∷◌, ◌++◌, length, get_or, Some, refl, ap, subst, arith, ⊎_elim, inl, inr, ◌⊎◌, AllPairs, Contains}
use Rattle.std.specs.Prelude.{slice_get}
use Rattle.std.proofs.lemmas.Option.{none-some, same_Some, slice_get_within, get_or_from_slice_get}

module _ {A : Type 0} where
  pub some_at : (xs : List A) (i : ℕ) → i < length xs → (x : A) × (slice_get xs i ≡ Some x)
  some_at [] i l = absurd (omega arith)
  some_at (x ∷ xs) zero l = (x, refl)
  some_at (x ∷ xs) (suc i) l = some_at xs i (omega arith)

  pub at_member : (xs : List A) (i : ℕ) (x : A) → slice_get xs i ≡ Some x → Contains xs x
  at_member xs i x h = (i, slice_get_within xs i x h, get_or_from_slice_get xs i x x h)

  pub at_left : (xs ys : List A) (i : ℕ) (x : A) → slice_get xs i ≡ Some x → slice_get (xs ++ ys) i ≡ Some x
  at_left [] ys i x h = absurd (none-some x h)
  at_left (z ∷ xs) ys zero x h = h
  at_left (z ∷ xs) ys (suc i) x h = at_left xs ys i x h

  pub at_end : (xs : List A) (y : A) → slice_get (xs ++ y ∷ []) (length xs) ≡ Some y
  at_end [] y = refl
  at_end (x ∷ xs) y = at_end xs y

  -- an element of two lists joined is one of the first or of the second
  pub at_append : (xs ys : List A) (i : ℕ) (x : A) → slice_get (xs ++ ys) i ≡ Some x
      → (slice_get xs i ≡ Some x) ⊎ ((k : ℕ) × (i ≡ length xs + k) × (slice_get ys k ≡ Some x))
  at_append [] ys i x h = inr (i, omega arith, h)
  at_append (z ∷ xs) ys zero x h = inl h
  at_append (z ∷ xs) ys (suc i) x h =
      ⊎_elim inl (λ r. inr (r.0, let e = r.1 in omega arith, r.2)) (at_append xs ys i x h)

  -- or of a list with one more, an earlier one or that one
  pub at_push : (xs : List A) (y : A) (i : ℕ) (x : A) → slice_get (xs ++ y ∷ []) i ≡ Some x
      → (slice_get xs i ≡ Some x) ⊎ ((i ≡ length xs) × (y ≡ x))
  at_push [] y zero x h = inr (refl, same_Some y x h)
  at_push [] y (suc i) x h = absurd (none-some x h)
  at_push (z ∷ xs) y zero x h = inl h
  at_push (z ∷ xs) y (suc i) x h = ⊎_elim inl (λ r. inr (ap suc r.0, r.1)) (at_push xs y i x h)

  pub at_old : (xs ys : List A) (i : ℕ) (x : A) → i < length xs → slice_get (xs ++ ys) i ≡ Some x
      → slice_get xs i ≡ Some x
  at_old xs ys i x l h =
      ⊎_elim (λ old. old) (λ new. absurd (let e = new.1 in omega arith)) (at_append xs ys i x h)

  -- what holds of all pairs holds of two elements
  pub at_pair : (R : A → A → Type 0) (xs : List A) (i j : ℕ) (x y : A) → AllPairs R xs → i < j
      → slice_get xs i ≡ Some x → slice_get xs j ≡ Some y → R x y
  at_pair R xs i j x y pairs lt at there =
      subst (λ z. R z y) (get_or_from_slice_get xs i x x at)
      (subst (λ z. R (get_or xs i x) z) (get_or_from_slice_get xs j y x there)
      (pairs i j x lt (slice_get_within xs j y there)))
