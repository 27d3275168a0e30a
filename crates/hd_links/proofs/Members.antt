-- Members of lists that are joined end to end, and of the numbers of references.
use Rattle.std.proofs.Common.{Contains, List, None, Option, Some, [], ap, length, refl, subst, sym, ℕ, ⊎_elim, ◌<◌, ◌∷◌, ◌≡◌}
use Rattle.std.specs.Prelude.{flat_map, slice_get}
use Rattle.std.proofs.lemmas.List.Elements.{Contains-append_cases, Contains-append_left, Contains-append_right}
use Rattle.std.proofs.lemmas.Option.{slice_get_read}
use Rattle.hd_model.proofs.Members.{first_in, later_in, member_cases, not_in_none}
use Rattle.hd_model.specs.declared.data.Id.{Id}
use Rattle.hd_links.specs.Graph.{named, numbers_of}

module _ {A B : Type 0} (f : A → List B) where
  pub flat_in : (xs : List A) (x : A) (y : B) → Contains xs x → Contains (f x) y → Contains (flat_map f xs) y
  flat_in [] x y has in_it = absurd (not_in_none x has)
  flat_in (z ∷ xs) x y has in_it =
      ⊎_elim
      (λ same. Contains-append_left (f z) (flat_map f xs) y (subst (λ w. Contains (f w) y) (sym same) in_it))
      (λ later. Contains-append_right (f z) (flat_map f xs) y (flat_in xs x y later in_it))
      (member_cases z xs x has)

  pub flat_from : (xs : List A) (y : B) → Contains (flat_map f xs) y
      → (x : A) × Contains xs x × Contains (f x) y
  flat_from [] y has = absurd (not_in_none y has)
  flat_from (x ∷ xs) y has =
      ⊎_elim (λ here. (x, first_in x xs, here))
      (λ beyond. let r = flat_from xs y beyond in (r.0, later_in x xs r.0 r.1, r.2))
      (Contains-append_cases (f x) (flat_map f xs) y has)

-- the index of a member
pub index_in : {A : Type 0} (xs : List A) (x : A) → Contains xs x
    → (k : ℕ) × (k < length xs) × (slice_get xs k ≡ Some x)
index_in xs x has = (has.0, has.1, slice_get_read xs (length xs) has.0 x refl has.1 (sym has.2))

-- the number of a reference is that of what it references
pub number_from : (o : Option Id) (x : ℕ) → Contains (numbers_of o) x → o ≡ Some (named x)
number_from None x has = absurd (not_in_none x has)
number_from (Some y) x has =
    ⊎_elim (λ (same : y.0 ≡ x). λ i. Some (named (same i))) (λ later. absurd (not_in_none x later))
    (member_cases y.0 [] x has)

pub number_in : (o : Option Id) (x : ℕ) → o ≡ Some (named x) → Contains (numbers_of o) x
number_in o x is = subst (λ q. Contains (numbers_of q) x) (sym is) (first_in x [])

pub numbers_from : (references : List (Option Id)) (x : ℕ) → Contains (flat_map numbers_of references) x
    → Contains references (Some (named x))
numbers_from references x has =
    let o = flat_from numbers_of references x has in
    subst (λ q. Contains references q) (number_from o.0 x o.2) o.1

pub numbers_in : (references : List (Option Id)) (x : ℕ) → Contains references (Some (named x))
    → Contains (flat_map numbers_of references) x
numbers_in references x has = flat_in numbers_of references (Some (named x)) x has (first_in x [])
