-- The entries of a map, number by number, and the roots among them.
use Rattle.hd_scan.proofs.Basics.{Bool, FinMap, List, None, Option, Some, T, [], ap, arith, cases_lt, entries, entries-from_sorted, false, find, from_sorted, get, get-from_entries, get-from_sorted, inl, inr, is_sorted, lt-ltb, nat_cmp-IsAntisymmetric, refl, same_map, suc, sym, true, with_entry, zero, ℕ, ◌&&◌, ◌++◌, ◌+◌, ◌<◌, ◌∙◌, ◌≡◌, ◌≤◌, ◌⊎◌}
use Rattle.std.specs.{FinMap.Entries.below_all, Ordering.nat_cmp, Ordering.is_lt, Cmp.nat_cmp_total}
use Rattle.hd_seg.specs.Mapped.{entries_of, mapped}
use Rattle.hd_seg.proofs.FunctionMaps.{get-mapped, get-mapped_out}

module _ {X : Type 0} (f : ℕ → Option X) where
  -- the entries of two ranges, one after the other
  with-join : (k : ℕ) (o : Option X) (es fs : List (ℕ × X)) → with_entry k o (es ++ fs) ≡ with_entry k o es
      ++ fs
  with-join k None es fs = refl
  with-join k (Some x) es fs = refl

  pub entries-join : (first n m : ℕ) → entries_of first (n + m) f
      ≡ entries_of first n f ++ entries_of (first + n) m f
  unfolding entries_of
  entries-join first zero m =
      let none : 0 + m ≡ m = omega arith in
      let here : first ≡ first + 0 = omega arith in
      ap (λ k. entries_of first k f) none ∙ ap (λ k. entries_of k m f) here
  entries-join first (suc n) m =
      let more : suc n + m ≡ suc (n + m) = omega arith in
      let there : (first + 1) + n ≡ first + suc n = omega arith in
      ap (λ k. entries_of first k f) more
      ∙ ap (with_entry first (f first)) (entries-join (first + 1) n m
      ∙ ap (λ k. entries_of (first + 1) n f ++ entries_of k m f) there)
      ∙ with-join first (f first) (entries_of (first + 1) n f) (entries_of (first + suc n) m f)

  -- they are in order
  both : (a b : Bool) → T a → T b → T (a && b)
  both true b p q = q
  both false b p q = p

  is_below : (x y : ℕ) → x < y → T (is_lt (nat_cmp x y))
  is_below x y less = rw (lt-ltb x y less) tt

  below-with : (x k : ℕ) (o : Option X) (es : List (ℕ × X)) → x < k → T (below_all nat_cmp x es)
      → T (below_all nat_cmp x (with_entry k o es))
  below-with x k None es less rest = rest
  below-with x k (Some y) es less rest = both (is_lt (nat_cmp x k)) (below_all nat_cmp x es)
      (is_below x k less) rest

  below : (x first n : ℕ) → x < first → T (below_all nat_cmp x (entries_of first n f))
  unfolding entries_of
  below x first zero less = tt
  below x first (suc n) less =
      below-with x first (f first) (entries_of (first + 1) n f) less (below x (first + 1) n (omega arith))

  sorted-with : (k : ℕ) (o : Option X) (es : List (ℕ × X)) → T (below_all nat_cmp k es)
      → T (is_sorted nat_cmp es) → T (is_sorted nat_cmp (with_entry k o es))
  sorted-with k None es low rest = rest
  sorted-with k (Some y) es low rest = both (below_all nat_cmp k es) (is_sorted nat_cmp es) low rest

  sorted : (first n : ℕ) → T (is_sorted nat_cmp (entries_of first n f))
  unfolding entries_of
  sorted first zero = tt
  sorted first (suc n) =
      sorted-with first (f first) (entries_of (first + 1) n f) (below first (first + 1) n (omega arith))
      (sorted (first + 1) n)

  -- a range without entries
  pub entries-none : (first n : ℕ) → ((q : ℕ) → first ≤ q → q < first + n → f q ≡ None) → entries_of first n f
      ≡ []
  unfolding entries_of
  entries-none first zero none = refl
  entries-none first (suc n) none =
      ap (λ o. with_entry first o (entries_of (first + 1) n f)) (none first (omega arith) (omega arith))
      ∙ entries-none (first + 1) n (λ q low high. none q (omega arith) (omega arith))

module _ {X : Type 0} (m : FinMap nat_cmp X) (first n : ℕ)
    (within : (q : ℕ) (x : X) → get m q ≡ Some x → (first ≤ q) × (q < first + n)) where
  out_of_it : (q : ℕ) (o : Option X) → get m q ≡ o → (q < first) ⊎ (first + n ≤ q) → o ≡ None
  out_of_it q None is out = refl
  out_of_it q (Some x) is (inl low) = let in_it = within q x is in absurd (omega (arith, in_it.0, low))
  out_of_it q (Some x) is (inr high) = let in_it = within q x is in absurd (omega (arith, in_it.1, high))

  mapped_is : (q : ℕ) → get (mapped first n (get m)) q ≡ get m q
  mapped_is q =
      elim (cases_lt q first) [
        | inl low ↦ get-mapped_out first n (get m) q (inl low) ∙ sym (out_of_it q (get m q) refl (inl low))
        | inr low ↦ elim (cases_lt q (first + n)) [
          | inl high ↦ get-mapped first n (get m) q low high
          | inr high ↦ get-mapped_out first n (get m) q (inr high)
              ∙ sym (out_of_it q (get m q) refl (inr high))
        ]
      ]

  found_in : (q : ℕ) → get (mapped first n (get m)) q ≡ find nat_cmp q (entries_of first n (get m))
  unfolding mapped
  found_in q = get-from_entries nat_cmp_total (entries_of first n (get m)) q

  -- the entries of a map are those of a range that has all its keys
  pub entries-are : entries m ≡ entries_of first n (get m)
  entries-are =
      ap entries (same_map nat_cmp_total nat_cmp-IsAntisymmetric m (from_sorted (entries_of first n (get m)))
      (λ q. sym (mapped_is q) ∙ found_in q
      ∙ sym (get-from_sorted nat_cmp (entries_of first n (get m)) q (sorted (get m) first n))))
      ∙ entries-from_sorted nat_cmp (entries_of first n (get m)) (sorted (get m) first n)
