-- Lemmas on references from the fields of an object to objects of younger generations.
use Rattle.hd_heap.proofs.Basics.{Addr, Contains, Contains-get_or, Heap, IfSome, IsField, NamesBelow, None, Option, Some, ap, arith, both_ways, false, fields_at_heap, get_or, get_or_read, has_object, is_below, length, lt-ltb, object_at_heap, refl, subst, sym, true, ℕ, ◌<◌, ◌∙◌, ◌≡◌, ◌≤◌}

module _ (h : Heap) (at : Addr) where
  -- what a field references
  field_at : (i : ℕ) (v : Option Addr) → i < length (fields_at_heap (object_at_heap h) at)
      → v ≡ get_or (fields_at_heap (object_at_heap h) at) i None → (y : Addr) → v ≡ Some y → IsField (object_at_heap h) at y
  field_at i v below is y some =
      subst (λ (x : Option Addr). Contains (fields_at_heap (object_at_heap h) at) x) (sym is ∙ some)
      (Contains-get_or (fields_at_heap (object_at_heap h) at) i None below)

  pub field_read : (i : ℕ) (v : Option Addr) → i < length (fields_at_heap (object_at_heap h) at)
      → v ≡ get_or (fields_at_heap (object_at_heap h) at) i None
      → ((y : Addr) → IsField (object_at_heap h) at y → has_object h y ≡ true)
      → IfSome v (λ y. has_object h y ≡ true)
  field_read i None below is there = tt
  field_read i (Some y) below is there = there y (field_at i (Some y) below is y refl)

  pub below_field : (n i : ℕ) → length (fields_at_heap (object_at_heap h) at) ≤ i
      → ((j : ℕ) → j < i → is_below h (get_or (fields_at_heap (object_at_heap h) at) j None) n ≡ false)
      → NamesBelow h at n → ⊥
  below_field n i all none named =
      let f = named.field in
      let read = get_or_read (fields_at_heap (object_at_heap h) at) f.0 (Some named.target) f.1 (sym f.2) None in
      both_ways _ (none f.0 (omega (arith, f.1, all)))
      (ap (λ v. is_below h v n) (sym read) ∙ lt-ltb _ n named.younger)
