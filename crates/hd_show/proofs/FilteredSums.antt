-- Sums over what passes a test, and over what things are made into.
use Rattle.std.proofs.Common.{Bool, List, [], ap, arith, cond, false, filter, map, refl, sum_by, sym, true, ℕ, ◌&&◌, ◌+◌, ◌∙◌, ◌∷◌, ◌≡◌}
use Rattle.std.proofs.lemmas.List.Sums.{sum_by-cons}

-- a sum over what passes is one of what each adds where it passes
pub sum_filtered : {X : Type 0} (f : X → ℕ) (p : X → Bool) (xs : List X)
    → sum_by f (filter p xs) ≡ sum_by (λ x. cond (p x) (f x) 0) xs
sum_filtered f p [] = refl
sum_filtered f p (x ∷ xs) =
    step (p x) ∙ ap (λ n. cond (p x) (f x) 0 + n) (sum_filtered f p xs)
    ∙ sym (sum_by-cons (λ y. cond (p y) (f y) 0) x xs)
  where
    step : (t : Bool)
        → sum_by f (cond t (x ∷ filter p xs) (filter p xs)) ≡ cond t (f x) 0 + sum_by f (filter p xs)
    step true = sum_by-cons f x (filter p xs)
    step false = let same : sum_by f (filter p xs) ≡ 0 + sum_by f (filter p xs) = omega arith in same

-- a sum over what things are made into
pub sum_mapped : {X Y : Type 0} (f : Y → ℕ) (g : X → Y) (xs : List X)
    → sum_by f (map g xs) ≡ sum_by (λ x. f (g x)) xs
sum_mapped f g [] = refl
sum_mapped f g (x ∷ xs) =
    sum_by-cons f (g x) (map g xs) ∙ ap (λ n. f (g x) + n) (sum_mapped f g xs)
    ∙ sym (sum_by-cons (λ y. f (g y)) x xs)

-- a sum of terms that are equal
pub same_sums : {X : Type 0} (f g : X → ℕ) → ((x : X) → f x ≡ g x) → (xs : List X)
    → sum_by f xs ≡ sum_by g xs
same_sums f g same xs = ap (λ h. sum_by h xs) (λ i x. same x i)

-- two tests in turn
pub both : (a b : Bool) → ◌≡◌ {A = ℕ} (cond a (cond b 1 0) 0) (cond (a && b) 1 0)
both true b = refl
both false b = refl
