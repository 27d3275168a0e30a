-- A map of the values that a function has at keys of a list.
use Rattle.hd_model.proofs.Basics.{Bool, Contains, FinMap, IsSome, List, None, Option, Some, [], ap, cases_eq, cond, empty, false, false≢true, get, get-empty, inl, inr, insert, is_some, keys, nat_cmp, option_map, refl, subst, sym, true, ℕ, ⊎_elim, ◌∙◌, ◌∷◌, ◌≡◌, ◌≢◌, ◌⊎◌}
use Rattle.hd_model.proofs.Members.{not_in_none, member_cases, mapped_in}
use Rattle.hd_model.proofs.{MapEntries.some_value, MapEntries.entry_of, ReadAfterWrite.get_inserted, ReadAfterWrite.get_beside}

pub in_keys : {X : Type 0} (m : FinMap nat_cmp X) (k : ℕ) → IsSome (get m k) → Contains (keys m) k
in_keys {X} m k h =
    let (v, e) = some_value (get m k) h in
    mapped_in (λ (g : ℕ × X). g.0) _ (k, v) (entry_of m k v e)

-- what a test lets through, and what a function is applied to, was there
pub had_value : {A : Type 0} (b : Bool) (o : Option A) → IsSome (cond b o None) → IsSome o
had_value true o h = h
had_value false o h = absurd (false≢true h)

pub had_source : {A B : Type 0} (f : A → B) (o : Option A) → IsSome (option_map f o) → IsSome o
had_source f None h = h
had_source f (Some x) h = refl

module _ {X : Type 0} (f : ℕ → Option X) where
  put_value : ℕ → Option X → FinMap nat_cmp X → FinMap nat_cmp X
  put_value k None m = m
  put_value k (Some v) m = insert m k v

  pub built : List ℕ → FinMap nat_cmp X
  built [] = empty
  built (k ∷ ks) = put_value k (f k) (built ks)

  put_here : (k : ℕ) (o : Option X) (m : FinMap nat_cmp X) → (get m k ≡ o) ⊎ (get m k ≡ None)
      → get (put_value k o m) k ≡ o
  unfolding put_value
  put_here k None m h = ⊎_elim (λ e. e) (λ e. e) h
  put_here k (Some v) m h = get_inserted m k v

  put_beside : (k : ℕ) (o : Option X) (m : FinMap nat_cmp X) (q : ℕ) → q ≢ k
      → get (put_value k o m) q ≡ get m q
  unfolding put_value
  put_beside k None m q ne = refl
  put_beside k (Some v) m q ne = get_beside m k v q ne

  built_or : (ks : List ℕ) (q : ℕ)
      → (get (built ks) q ≡ f q) ⊎ ((get (built ks) q ≡ None) × (Contains ks q → ⊥))
  unfolding built
  built_or [] q = inr (get-empty nat_cmp q, not_in_none q)
  built_or (k ∷ ks) q =
      ⊎_elim
      (λ same. inl (subst (λ j. get (put_value k (f k) (built ks)) j ≡ f j) (sym same)
      (put_here k (f k) (built ks)
      (⊎_elim (λ e. inl e) (λ (e : (get (built ks) k ≡ None) × (Contains ks k → ⊥)). inr e.0)
      (built_or ks k))))) (λ ne. ⊎_elim (λ e. inl (put_beside k (f k) (built ks) q ne ∙ e))
      (λ (e : (get (built ks) q ≡ None) × (Contains ks q → ⊥)).
      inr (
        put_beside k (f k) (built ks) q ne ∙ e.0,
        λ c. ⊎_elim (λ first. ne (sym first)) (λ later. e.1 later) (member_cases k ks q c),
      ))
      (built_or ks q))
      (cases_eq q k)

  -- where the list has each key of the function, the map is the function
  pub built_is : (ks : List ℕ) → ((k : ℕ) → IsSome (f k) → Contains ks k) → (q : ℕ) → get (built ks) q ≡ f q
  built_is ks all q =
      ⊎_elim (λ e. e)
      (λ (e : (get (built ks) q ≡ None) × (Contains ks q → ⊥)). none_at (f q) refl e) (built_or ks q)
    where
      none_at : (o : Option X) → f q ≡ o → (get (built ks) q ≡ None) × (Contains ks q → ⊥)
          → get (built ks) q ≡ o
      none_at None e h = h.0
      none_at (Some v) e h = absurd (h.1 (all q (ap is_some e)))
