-- Lemmas on the look-up of an offset among objects with their offsets.
use Rattle.hd_cells.proofs.Basics.{Bool, List, Object, Option, Some, ap, cases_eq, cond, eq-eqb, eq_by_cmp, false, find, inl, inr, nat_cmp, ne_eqb, refl, true, unsigned_tied, ℕ, ◌∙◌, ◌∷◌, ◌≡◌}

-- the order's test at two numbers that are equal, and at two that are not
pub tied : (x y : ℕ) → x ≡ y → eq_by_cmp nat_cmp x y ≡ true
tied x y e = unsigned_tied x y ∙ eq-eqb x y e

pub untied : (x y : ℕ) → (x ≡ y → ⊥) → eq_by_cmp nat_cmp x y ≡ false
untied x y ne = unsigned_tied x y ∙ ne_eqb x y ne

-- the first entry is the one that is searched for
pub find_here : (q k : ℕ) (o : Object) (os : List (ℕ × Object)) → q ≡ k
    → find nat_cmp q ((k, o) ∷ os) ≡ Some o
find_here q k o os e = ap (λ (b : Bool). cond b (Some o) (find nat_cmp q os)) (tied q k e)

-- the first entry is another one
pub find_beyond : (q k : ℕ) (o : Object) (os : List (ℕ × Object)) → (q ≡ k → ⊥)
    → find nat_cmp q ((k, o) ∷ os) ≡ find nat_cmp q os
find_beyond q k o os ne = ap (λ (b : Bool). cond b (Some o) (find nat_cmp q os)) (untied q k ne)

-- a test made twice is decided the first time
pub asked_twice : (b : Bool) (x y z : Option Object) → cond b x z ≡ cond b x (cond b y z)
asked_twice true x y z = refl
asked_twice false x y z = refl

-- two tests that do not both hold may be made in either order
pub either_order : (a b : Bool) (x y z : Option Object) → (a ≡ true → b ≡ true → ⊥)
    → cond a x (cond b y z) ≡ cond b y (cond a x z)
either_order true true x y z apart = absurd (apart refl refl)
either_order true false x y z apart = refl
either_order false b x y z apart = refl

-- a number that ties with another is that number
pub tied_same : (x y : ℕ) → eq_by_cmp nat_cmp x y ≡ true → x ≡ y
tied_same x y t = elim (cases_eq x y) [ inl e ↦ e | inr ne ↦ absurd (cc (untied x y ne)) ]
