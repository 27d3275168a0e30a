-- Lengths and sums of maps that are made from the entries of another.
use Rattle.hd_store.proofs.StoreWords.{Contains, FinMap, List, None, Option, Some, T, [], ap, arith, below, below_all, both, cond, entries, entries_sorted, find, first_alone, first_in, from_entries, get, get-from_entries, get_entry, is_some, is_sorted, later_in, len, len-empty, len-entries, len-insert, length, length-map, map, nat_cmp, nat_cmp_total, option_map, refl, share, sum-insert, sum_by, sum_by-cons, sym, values, ℕ, ◌+◌, ◌<◌, ◌∙◌, ◌∷◌, ◌≡◌}
use Rattle.hd_store.proofs.EntryMaps.{find-mapped, source, AreApart, rekeyed}

-- no key occurs twice
abbrev pub AreFresh : {A : Type 0} → List (ℕ × A) → Type 0
AreFresh [] = Unit {0}
AreFresh (e ∷ es) = (find nat_cmp e.0 es ≡ None) × AreFresh es

found_none : {A : Type 0} (es : List (ℕ × A)) (k : ℕ) → find nat_cmp k es ≡ None
    → get (from_entries {R = nat_cmp} es) k ≡ None
found_none es k is = get-from_entries nat_cmp_total es k ∙ is

pub len-fresh : {A : Type 0} (es : List (ℕ × A)) → AreFresh es
    → len (from_entries {R = nat_cmp} es) ≡ length es
len-fresh {A} [] fresh = len-empty nat_cmp A
len-fresh (e ∷ es) fresh =
    len-insert nat_cmp_total (from_entries es) e.0 e.1
    ∙ ap (λ o. cond (is_some o) (len (from_entries {R = nat_cmp} es))
    (len (from_entries {R = nat_cmp} es) + 1)) (found_none es e.0 fresh.0)
    ∙ ap (λ n. n + 1) (len-fresh es fresh.1) ∙ omega arith

no_values : {A : Type 0} (f : A → ℕ) (m : FinMap nat_cmp A) → len m ≡ 0 → sum_by f (values m) ≡ 0
no_values {A} f m none = by (entries m) (sym (len-entries m) ∙ none)
  where
    by : (es : List (ℕ × A)) → length es ≡ 0 → sum_by f (map (λ e. e.1) es) ≡ 0
    by [] is = refl
    by (e ∷ es) is = absurd (omega arith)

pub sum-fresh : {A : Type 0} (f : A → ℕ) (es : List (ℕ × A)) → AreFresh es
    → sum_by f (values (from_entries {R = nat_cmp} es)) ≡ sum_by f (map (λ e. e.1) es)
sum-fresh {A} f [] fresh = no_values f (from_entries {R = nat_cmp} []) (len-empty nat_cmp A)
sum-fresh f (e ∷ es) fresh =
    let rest = sum-fresh f es fresh.1 in
    let sum = sum-insert f (from_entries {R = nat_cmp} es) e.0 e.1 in
    let none : share f (get (from_entries {R = nat_cmp} es) e.0) ≡ 0 =
    ap (share f) (found_none es e.0 fresh.0) in
    omega (arith, rest, sum, none, sum_by-cons f e.1 (map (λ w. w.1) es))

module _ {X Y : Type 0} (key : X → ℕ) (f : ℕ → X → Y) where
  -- entries with keys that differ stay fresh under their new keys
  abbrev Apart : List (ℕ × X) → Type 0
  Apart es = (a b : ℕ) (p q : X) → Contains es (a, p) → Contains es (b, q) → key p ≡ key q → a ≡ b

  rest_apart : (e : ℕ × X) (es : List (ℕ × X)) → Apart (e ∷ es) → Apart es
  rest_apart e es apart a b p q first second =
      apart a b p q (later_in e es (a, p) first) (later_in e es (b, q) second)

  not_found : (e : ℕ × X) (es : List (ℕ × X)) → T (below_all nat_cmp e.0 es) → Apart (e ∷ es)
      → find nat_cmp (key e.1) (rekeyed key f es) ≡ None
  not_found e es low apart = by (find nat_cmp (key e.1) (rekeyed key f es)) refl
    where
      by : (o : Option Y) → find nat_cmp (key e.1) (rekeyed key f es) ≡ o
          → find nat_cmp (key e.1) (rekeyed key f es) ≡ None
      by None is = is
      by (Some y) is =
          let s = source key f es (key e.1) y is in
          let at : ℕ × X = (s.at, s.value) in
          let lower : e.0 < s.at = below e.0 es low at s.among in
          let same : e.0 ≡ s.at =
          apart e.0 s.at e.1 s.value (first_in e es) (later_in e es at s.among) (sym s.keyed) in
          absurd (omega arith)

  fresh_rekeyed : (es : List (ℕ × X)) → T (is_sorted nat_cmp es) → Apart es → AreFresh (rekeyed key f es)
  fresh_rekeyed [] sorted apart = tt
  fresh_rekeyed (e ∷ es) sorted apart =
      let parts = both (below_all nat_cmp e.0 es) (is_sorted nat_cmp es) sorted in
      (not_found e es parts.0 apart, fresh_rekeyed es parts.1 (rest_apart e es apart))

  pub fresh-rekeyed : (m : FinMap nat_cmp X) → AreApart key m → AreFresh (rekeyed key f (entries m))
  fresh-rekeyed m apart =
      fresh_rekeyed (entries m) (entries_sorted m)
      (λ a b p q first second. apart a b p q (get_entry m a p first) (get_entry m b q second))

  pub len-rekeyed : (m : FinMap nat_cmp X) → AreApart key m
      → len (from_entries {R = nat_cmp} (map (λ e. (key e.1, f e.0 e.1)) (entries m))) ≡ len m
  len-rekeyed m apart =
      len-fresh (rekeyed key f (entries m)) (fresh-rekeyed m apart)
      ∙ length-map (entries m) (λ e. (key e.1, f e.0 e.1)) ∙ sym (len-entries m)

-- the same keys are as fresh as they were
fresh_mapped : {X Y : Type 0} (f : ℕ → X → Y) (es : List (ℕ × X)) → T (is_sorted nat_cmp es)
    → AreFresh (map (λ e. (e.0, f e.0 e.1)) es)
fresh_mapped f [] sorted = tt
fresh_mapped f (e ∷ es) sorted =
    let parts = both (below_all nat_cmp e.0 es) (is_sorted nat_cmp es) sorted in
    (find-mapped f e.0 es ∙ ap (option_map (f e.0)) (first_alone e.0 es parts.0), fresh_mapped f es parts.1)

pub len-mapped : {X Y : Type 0} (f : ℕ → X → Y) (m : FinMap nat_cmp X)
    → len (from_entries {R = nat_cmp} (map (λ e. (e.0, f e.0 e.1)) (entries m))) ≡ len m
len-mapped f m =
    len-fresh (map (λ e. (e.0, f e.0 e.1)) (entries m)) (fresh_mapped f (entries m) (entries_sorted m))
    ∙ length-map (entries m) (λ e. (e.0, f e.0 e.1)) ∙ sym (len-entries m)
