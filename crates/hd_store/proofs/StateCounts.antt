-- Objects, rows and cells are as many by identity as by address.
use Rattle.hd_store.proofs.StoreWords.{Addr, Bool, FinMap, Handle, HasIdentities, Heap, Id, IsSome, List, None, Option, Placed, Some, T, [], ap, arith, cells_of, cond, entries, false, filter, from_entries, get, get-retain_keys, id_at, is_none, len, len-entries, length, length-map, map, nat_cmp, nat_cmp-IsAntisymmetric, not, objects_by_id, option_map, read_object, refl, rename_handle, retain_keys, rows_by_id, size_of, subst, suc, sum_by, sum_by-cons, sym, true, unheld, used_of, values, ℕ, ◌*◌, ◌+◌, ◌∙◌, ◌∷◌, ◌≡◌, ◌≤◌}
use Rattle.hd_store.proofs.EntryMaps.{rekeyed, same_numbers, get-mapped, entries-retained}
use Rattle.hd_store.proofs.EntrySums.{sum-fresh, fresh-rekeyed, len-rekeyed, len-mapped}
use Rattle.hd_store.proofs.IdentityReadings.{apart_by_number}

pub len-objects : (h : Heap) → HasIdentities h → len (objects_by_id h) ≡ len h.objects
unfolding objects_by_id
len-objects h identities =
    len-rekeyed (λ (p : Placed). p.id.0) (read_object h) h.objects (apart_by_number h identities)

pub len-rows : (h : Heap) (rows : FinMap nat_cmp (Handle Addr)) → len (rows_by_id h rows) ≡ len rows
unfolding rows_by_id
len-rows h rows = len-mapped (λ slot row. rename_handle (id_at h) row) rows

pub read-size : (h : Heap) (a : ℕ) (p : Placed) → size_of (read_object h a p) ≡ cells_of p
read-size h a p = ap (λ n. n + 3) (length-map p.fields (option_map (id_at h)))

sum_read : (h : Heap) (es : List (ℕ × Placed))
    → sum_by size_of (map (λ e. e.1) (rekeyed (λ (p : Placed). p.id.0) (read_object h) es)) ≡ sum_by cells_of
    (map (λ e. e.1) es)
sum_read h [] = refl
sum_read h (e ∷ es) =
    let rest = sum_read h es in
    let same = read-size h e.0 e.1 in
    let new = sum_by-cons size_of (read_object h e.0 e.1)
    (map (λ w. w.1) (rekeyed (λ (p : Placed). p.id.0) (read_object h) es)) in
    let old = sum_by-cons cells_of e.1 (map (λ w. w.1) es) in
    omega (arith, rest, same, new, old)

pub used-is : (h : Heap) → HasIdentities h → sum_by size_of (values (objects_by_id h)) ≡ used_of h
unfolding objects_by_id
used-is h identities =
    sum-fresh size_of (rekeyed (λ (p : Placed). p.id.0) (read_object h) (entries h.objects))
    (fresh-rekeyed (λ (p : Placed). p.id.0) (read_object h) h.objects (apart_by_number h identities))
    ∙ sum_read h (entries h.objects)

-- each object takes at least three cells
cells_least : (es : List (ℕ × Placed)) → 3 * length es ≤ sum_by cells_of (map (λ e. e.1) es)
cells_least [] = omega arith
cells_least (e ∷ es) = let sum = sum_by-cons cells_of e.1 (map (λ w. w.1) es) in omega
    (arith, sum, cells_least es)

pub few_objects : (h : Heap) → 3 * len h.objects ≤ used_of h
few_objects h = let long = len-entries h.objects in omega (arith, long, cells_least (entries h.objects))

-- a list is split by a test of its keys
one-more : {A : Type 0} (b : Bool) (e : A) (xs ys es : List A) → length xs + length ys ≡ length es
    → length (cond b (e ∷ xs) xs) + length (cond (not b) (e ∷ ys) ys) ≡ suc (length es)
one-more true e xs ys es is = omega (arith, is)
one-more false e xs ys es is = omega (arith, is)

len-split : {X : Type 0} (p : ℕ → Bool) (es : List (ℕ × X))
    → length (filter (λ e. p e.0) es) + length (filter (λ e. not (p e.0)) es) ≡ length es
len-split p [] = refl
len-split p (e ∷ es) = one-more (p e.0) e (filter (λ e. p e.0) es) (filter (λ e. not (p e.0)) es) es
    (len-split p es)

module _ (rows : FinMap nat_cmp (Handle Addr)) (held : FinMap nat_cmp (Option Id))
    (live : (slot : ℕ) → IsSome (get held slot) → IsSome (get rows slot)) where
  abbrev keys_only : {X : Type 0} → FinMap nat_cmp X → FinMap nat_cmp Bool
  keys_only m = from_entries {R = nat_cmp} (map (λ e. (e.0, true)) (entries m))

  abbrev held_rows : FinMap nat_cmp (Handle Addr)
  held_rows = retain_keys rows (λ slot. not (is_none (get held slot)))

  same_keys : keys_only held_rows ≡ keys_only held
  same_keys = same_numbers (keys_only held_rows) (keys_only held) (λ slot.
      get-mapped (λ s x. true) held_rows slot
      ∙ ap (option_map (λ x. true)) (get-retain_keys rows (λ s. not (is_none (get held s))) slot
      (λ x same. ap (λ s. not (is_none (get held s))) (sym (nat_cmp-IsAntisymmetric slot x same))))
      ∙ by slot (get held slot) (get rows slot) (live slot) ∙ sym (get-mapped (λ s x. true) held slot))
    where
      by : (slot : ℕ) (o : Option (Option Id)) (r : Option (Handle Addr)) → (IsSome o → IsSome r)
          → option_map (λ x. true) (cond (not (is_none o)) r None) ≡ option_map (λ x. true) o
      by slot None r is = refl
      by slot (Some key) (Some row) is = refl
      by slot (Some key) None is = absurd (subst T (sym (is refl)) tt)

  len-held : len held_rows ≡ len held
  len-held = sym (len-mapped (λ s x. true) held_rows) ∙ ap len same_keys ∙ len-mapped (λ s x. true) held

  split : len (unheld rows held) + len held_rows ≡ len rows
  split =
      let here = ap length (entries-retained rows (λ slot. is_none (get held slot))) in
      let there = ap length (entries-retained rows (λ slot. not (is_none (get held slot)))) in
      let kept = len-entries (unheld rows held) in
      let taken = len-entries held_rows in
      let all = len-entries rows in
      let halves = len-split (λ slot. is_none (get held slot)) (entries rows) in
      omega (arith, here, there, kept, taken, all, halves)

  -- the live rows are the handles and the slots that the weak table holds
  pub len-unheld : len (unheld rows held) + len held ≡ len rows
  len-unheld = ap (λ n. len (unheld rows held) + n) (sym len-held) ∙ split
