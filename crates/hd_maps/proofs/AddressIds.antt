-- Lists of what there is at each number: the objects that have pinned addresses.
use Rattle.std.proofs.Common.{List, None, Option, Some, [], ap, append-nil, arith, get_or, is_some, length, refl, subst, sym, ℕ, ⊎_elim, ◌++◌, ◌+◌, ◌<◌, ◌∙◌, ◌∷◌, ◌≡◌}
use Rattle.std.specs.Option.{option_to_list}
use Rattle.std.specs.Prelude.{AllPairs, Contains, IsSome, ◌↔◌}
use Rattle.std.specs.FinMap.{FinMap, entries, entries_sorted, get, keys}
use Rattle.std.specs.Ordering.{nat_cmp}
use Rattle.std.proofs.lemmas.Bool.{cases_lt}
use Rattle.std.proofs.lemmas.List.{get_or_default}
use Rattle.std.proofs.lemmas.List.Elements.{Contains-append_cases, Contains-append_left, Contains-append_right}
use Rattle.std.proofs.lemmas.List.Quantifiers.{all_pairs_push}
use Rattle.std.proofs.lemmas.Option.{none-some, same_Some}
use Rattle.hd_model.proofs.MapBuild.{in_keys}
use Rattle.hd_model.proofs.MapEntries.{keys_rise, some_value}
use Rattle.hd_model.proofs.Members.{first_in, member_at, member_cases, not_in_none, pairs_none}
use Rattle.hd_maps.specs.Inside.{AreInverse}
use Rattle.hd_maps.specs.PinnedObjects.{IsBelow}

-- a list has what there is at the numbers below one, each related to what comes after it
pub record Gathers {A : Type 0} (R : A → A → Type 0) (f : ℕ → Option A) (i : ℕ) (xs : List A) : Type 0 where
  pub each : (x : A) → Contains xs x → (k : ℕ) × (k < i) × (f k ≡ Some x)
  pub all : (k : ℕ) (x : A) → k < i → f k ≡ Some x → Contains xs x
  pub pairs : AllPairs R xs

module _ {A : Type 0} (R : A → A → Type 0) (f : ℕ → Option A) where
  pub gathers_none : Gathers R f 0 []
  gathers_none = record {
    each = λ x h. absurd (not_in_none x h);
    all = λ k x low is. absurd (omega (arith, low));
    pairs = pairs_none R;
  }

  module _ (i : ℕ) (xs : List A) (gathers : Gathers R f i xs)
      (earlier : (k : ℕ) (x y : A) → k < i → f k ≡ Some x → f i ≡ Some y → R x y) where
    gathers_push : (y : A) → f i ≡ Some y → Gathers R f (i + 1) (xs ++ y ∷ [])
    gathers_push y here = record {
      each = λ x h. ⊎_elim
          (λ before. let old = gathers.each x before in let low = old.1 in (old.0, omega (arith, low), old.2))
          (λ last. ⊎_elim (λ same. (i, omega arith, here ∙ ap Some same))
          (λ none. absurd (not_in_none x none)) (member_cases y [] x last))
          (Contains-append_cases xs (y ∷ []) x h);
      all = λ k x low is. ⊎_elim (λ less. Contains-append_left xs (y ∷ []) x (gathers.all k x less is))
          (λ le.
          let at : k ≡ i = omega (arith, le, low) in
          let same : y ≡ x = same_Some y x (sym here ∙ ap f (sym at) ∙ is) in
          Contains-append_right xs (y ∷ []) x (subst (λ z. Contains (y ∷ []) z) same (first_in y [])))
          (cases_lt k i);
      pairs = all_pairs_push R xs y gathers.pairs
          (λ k d low.
          let found = gathers.each (get_or xs k d) (member_at xs k d (get_or xs k d) low refl) in
          earlier found.0 (get_or xs k d) y found.1 found.2 here);
    }

    gathers_skip : f i ≡ None → Gathers R f (i + 1) xs
    gathers_skip none = record {
      each = λ x h. let old = gathers.each x h in let low = old.1 in (old.0, omega (arith, low), old.2);
      all = λ k x low is. ⊎_elim (λ less. gathers.all k x less is)
          (λ le.
          let at : k ≡ i = omega (arith, le, low) in
          absurd (none-some x (sym none ∙ ap f (sym at) ∙ is)))
          (cases_lt k i);
      pairs = gathers.pairs;
    }

    by_value : (o : Option A) → f i ≡ o → Gathers R f (i + 1) (xs ++ option_to_list o)
    by_value None is = subst (λ ys. Gathers R f (i + 1) ys) (sym (append-nil xs)) (gathers_skip is)
    by_value (Some y) is = gathers_push y is

    -- the list goes on with what there is at the next number
    pub gathers_next : (ys : List A) → ys ≡ xs ++ option_to_list (f i) → Gathers R f (i + 1) ys
    gathers_next ys is = subst (λ zs. Gathers R f (i + 1) zs) (sym is) (by_value (f i) refl)

-- ---- objects by their addresses

abbrev pub owner_at : FinMap nat_cmp ℕ → List ℕ → ℕ → Option ℕ
owner_at n pinned k = get n (get_or pinned k 0)

-- where these are all addresses, all objects are listed
pub owners_all : (m n : FinMap nat_cmp ℕ) → AreInverse m n → (pinned : List ℕ) → pinned ≡ keys n → (i : ℕ)
    → i ≡ length pinned → (ids : List ℕ) → Gathers (IsBelow m) (owner_at n pinned) i ids → (id : ℕ)
    → Contains ids id ↔ IsSome (get m id)
owners_all m n inverse pinned are i end ids gathers id = (there, back)
  where
    there : Contains ids id → IsSome (get m id)
    there h =
        let found = gathers.each id h in ap is_some (inverse.back (get_or pinned found.0 0) id found.2)

    back : IsSome (get m id) → Contains ids id
    back some =
        let found = some_value (get m id) some in
        let address = found.0 in
        let owner = inverse.there id address found.1 in
        let key : Contains pinned address =
        subst (λ ks. Contains ks address) (sym are) (in_keys n address (ap is_some owner)) in
        let low = key.1 in
        let at : get_or pinned key.0 0 ≡ address = get_or_default pinned key.0 0 address low ∙ key.2 in
        gathers.all key.0 id (omega (arith, low, end)) (ap (get n) at ∙ owner)

-- and each comes before those at higher addresses
pub owners_rise : (m n : FinMap nat_cmp ℕ) → AreInverse m n → (pinned : List ℕ) → pinned ≡ keys n → (i : ℕ)
    → i < length pinned → (k x y : ℕ) → k < i → owner_at n pinned k ≡ Some x → owner_at n pinned i ≡ Some y
    → IsBelow m x y
owners_rise m n inverse pinned are i low k x y less first second p q at_x at_y =
    let rise : AllPairs (λ a b. a < b) pinned =
    subst (λ ks. AllPairs (λ a b. a < b) ks) (sym are) (keys_rise (entries n) (entries_sorted n)) in
    let below : get_or pinned k 0 < get_or pinned i 0 = rise k i 0 less low in
    let from : get_or pinned k 0 ≡ p =
    same_Some (get_or pinned k 0) p (sym (inverse.back (get_or pinned k 0) x first) ∙ at_x) in
    let to : get_or pinned i 0 ≡ q =
    same_Some (get_or pinned i 0) q (sym (inverse.back (get_or pinned i 0) y second) ∙ at_y) in
    omega (arith, below, from, to)
