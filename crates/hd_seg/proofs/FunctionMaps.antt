-- The map of a function's values: the value of a key, one entry more or fewer, and the number of entries.
use Rattle.hd_seg.proofs.Basics.{Bool, FinMap, IsSome, List, None, Option, Some, ap, arith, cases_eq, cases_lt, cond, empty, false, find, from_entries, get, get-empty, get-from_entries, get_inserted, get_removed, inl, inr, insert, insert_cases, is_some, len, len-empty, len-insert, nat_cmp, nat_cmp-IsAntisymmetric, nat_cmp_total, refl, remove, remove_cases, same_map, suc, sym, true, true≢false, with_entry, zero, ℕ, ◌+◌, ◌<◌, ◌∙◌, ◌≡◌, ◌≢◌, ◌≤◌, ◌⊎◌}
use Rattle.hd_model.proofs.MapEntries.{found_first, found_later}
use Rattle.hd_seg.specs.Mapped.{entries_of, mapped}

pub get-insert_same : {A : Type 0} (m : FinMap nat_cmp A) (k : ℕ) (x : A) (q : ℕ) → q ≡ k
    → get (insert m k x) q ≡ Some x
get-insert_same m k x q same = ap (get (insert m k x)) same ∙ get_inserted m k x

pub get-remove_same : {A : Type 0} (m : FinMap nat_cmp A) (k q : ℕ) → q ≡ k → get (remove m k) q ≡ None
get-remove_same m k q same = ap (get (remove m k)) same ∙ get_removed m k

find-other : {A : Type 0} (q k : ℕ) (o : Option A) (es : List (ℕ × A)) → q ≢ k
    → find nat_cmp q (with_entry k o es) ≡ find nat_cmp q es
find-other q k None es apart = refl
find-other q k (Some x) es apart = found_later q k (Some x) (find nat_cmp q es) apart

find-same : {A : Type 0} (q k : ℕ) (o : Option A) (es : List (ℕ × A)) → q ≡ k → find nat_cmp q es ≡ None
    → find nat_cmp q (with_entry k o es) ≡ o
find-same q k None es same none = none
find-same q k (Some x) es same none = found_first q k x (find nat_cmp q es) same

find-below : {A : Type 0} (first n : ℕ) (f : ℕ → Option A) (q : ℕ) → q < first
    → find nat_cmp q (entries_of first n f) ≡ None
unfolding entries_of
find-below first zero f q below = refl
find-below first (suc n) f q below =
    find-other q first (f first) (entries_of (first + 1) n f) (λ same. omega arith)
    ∙ find-below (first + 1) n f q (omega arith)

find-past : {A : Type 0} (first n : ℕ) (f : ℕ → Option A) (q : ℕ) → first + n ≤ q
    → find nat_cmp q (entries_of first n f) ≡ None
unfolding entries_of
find-past first zero f q past = refl
find-past first (suc n) f q past =
    find-other q first (f first) (entries_of (first + 1) n f) (λ same. omega arith)
    ∙ find-past (first + 1) n f q (omega arith)

find-within : {A : Type 0} (first n : ℕ) (f : ℕ → Option A) (q : ℕ) → first ≤ q → q < first + n
    → find nat_cmp q (entries_of first n f) ≡ f q
unfolding entries_of
find-within first zero f q low high = absurd (omega arith)
find-within first (suc n) f q low high =
    elim (cases_eq q first) [
      | inl same ↦ find-same q first (f first) (entries_of (first + 1) n f) same
          (find-below (first + 1) n f q (omega arith)) ∙ ap f (sym same)
      | inr apart ↦ find-other q first (f first) (entries_of (first + 1) n f) apart
          ∙ find-within (first + 1) n f q (omega arith) (omega arith)
    ]

module _ {A : Type 0} (first n : ℕ) (f : ℕ → Option A) where
  is_found : (q : ℕ) → get (mapped first n f) q ≡ find nat_cmp q (entries_of first n f)
  unfolding mapped
  is_found q = get-from_entries nat_cmp_total (entries_of first n f) q

  -- a key among them
  pub get-mapped : (q : ℕ) → first ≤ q → q < first + n → get (mapped first n f) q ≡ f q
  get-mapped q low high = is_found q ∙ find-within first n f q low high

  -- a key outside
  pub get-mapped_out : (q : ℕ) → (q < first) ⊎ (first + n ≤ q) → get (mapped first n f) q ≡ None
  get-mapped_out q (inl below) = is_found q ∙ find-below first n f q below
  get-mapped_out q (inr past) = is_found q ∙ find-past first n f q past

  -- where a key is
  pub cases_within : (q : ℕ) → ((first ≤ q) × (q < first + n)) ⊎ ((q < first) ⊎ (first + n ≤ q))
  cases_within q =
      elim (cases_lt q first) [
        | inl below ↦ inr (inl below)
        | inr low ↦ elim (cases_lt q (first + n)) [ inl high ↦ inl (low, high) | inr past ↦ inr (inr past) ]
      ]

  -- what has a value is among them
  pub within : (q : ℕ) → IsSome (get (mapped first n f) q) → (first ≤ q) × (q < first + n)
  within q there =
      elim (cases_within q) [
        | inl is ↦ is
        | inr out ↦ absurd (true≢false (sym there ∙ ap is_some (get-mapped_out q out)))
      ]

module _ {A : Type 0} (first n : ℕ) (f g : ℕ → Option A) where
  at_same : (q : ℕ) → (first ≤ q → q < first + n → g q ≡ f q)
      → get (mapped first n g) q ≡ get (mapped first n f) q
  at_same q same =
      elim (cases_within first n f q) [
        | inl is ↦ get-mapped first n g q is.0 is.1 ∙ same is.0 is.1 ∙ sym (get-mapped first n f q is.0 is.1)
        | inr out ↦ get-mapped_out first n g q out ∙ sym (get-mapped_out first n f q out)
      ]

  -- two functions with the same values
  pub mapped-same : ((q : ℕ) → first ≤ q → q < first + n → g q ≡ f q) → mapped first n g ≡ mapped first n f
  mapped-same same = same_map nat_cmp_total nat_cmp-IsAntisymmetric _ _ (λ q. at_same q (same q))

  -- one value more, or another one
  pub mapped-insert : (k : ℕ) (x : A) → first ≤ k → k < first + n → g k ≡ Some x
      → ((q : ℕ) → q ≢ k → g q ≡ f q) → mapped first n g ≡ insert (mapped first n f) k x
  mapped-insert k x low high here others =
      same_map nat_cmp_total nat_cmp-IsAntisymmetric _ _ (λ q.
      insert_cases (mapped first n f) k (λ q o. get (mapped first n g) q ≡ o) x q
      (get-mapped first n g k low high ∙ here) (λ apart. at_same q (λ _ _. others q apart)))

  -- one value fewer
  pub mapped-remove : (k : ℕ) → g k ≡ None → ((q : ℕ) → q ≢ k → g q ≡ f q)
      → mapped first n g ≡ remove (mapped first n f) k
  mapped-remove k here others =
      same_map nat_cmp_total nat_cmp-IsAntisymmetric _ _ (λ q.
      remove_cases (mapped first n f) k (λ q o. get (mapped first n g) q ≡ o) q
      (elim (cases_within first n g k) [
        | inl is ↦ get-mapped first n g k is.0 is.1 ∙ here
        | inr out ↦ get-mapped_out first n g k out
      ]) (λ apart. at_same q (λ _ _. others q apart)))

-- no key has a value
pub mapped-empty : {A : Type 0} (first n : ℕ) (f : ℕ → Option A)
    → ((q : ℕ) → first ≤ q → q < first + n → f q ≡ None) → mapped first n f ≡ empty
mapped-empty first n f none =
    same_map nat_cmp_total nat_cmp-IsAntisymmetric _ _ (λ q.
    elim (cases_within first n f q) [
      | inl is ↦ get-mapped first n f q is.0 is.1 ∙ none q is.0 is.1 ∙ sym (get-empty nat_cmp q)
      | inr out ↦ get-mapped_out first n f q out ∙ sym (get-empty nat_cmp q)
    ])

-- the number of entries, by the first value and the others
len-with : {A : Type 0} (k : ℕ) (o : Option A) (es : List (ℕ × A)) → find nat_cmp k es ≡ None
    → len (from_entries {R = nat_cmp} (with_entry k o es)) ≡ cond (is_some o) 1 0 + len
    (from_entries {R = nat_cmp} es)
len-with k None es none = sym (omega arith)
len-with k (Some x) es none =
    len-insert nat_cmp_total (from_entries es) k x
    ∙ ap (λ o. cond (is_some o) (len (from_entries {R = nat_cmp} es))
    (len (from_entries {R = nat_cmp} es) + 1)) (get-from_entries nat_cmp_total es k ∙ none)
    ∙ omega arith

len-mapped : {A : Type 0} (first n : ℕ) (f : ℕ → Option A) → len (mapped first (suc n) f)
    ≡ cond (is_some (f first)) 1 0 + len (mapped (first + 1) n f)
unfolding mapped entries_of
len-mapped first n f = len-with first (f first) (entries_of (first + 1) n f)
    (find-below (first + 1) n f first (omega arith))

len-mapped_none : {A : Type 0} (first : ℕ) (f : ℕ → Option A) → len (mapped first 0 f) ≡ 0
unfolding mapped entries_of
len-mapped_none {A} first f = len-empty nat_cmp A

pub at_most_one : (b : Bool) → cond b 1 0 ≤ 1
at_most_one true = omega arith
at_most_one false = omega arith

-- at most as many as there are keys
pub len-mapped_le : {A : Type 0} (first n : ℕ) (f : ℕ → Option A) → len (mapped first n f) ≤ n
len-mapped_le first zero f = omega (arith, len-mapped_none first f)
len-mapped_le first (suc n) f =
    omega (arith, len-mapped first n f, at_most_one (is_some (f first)), len-mapped_le (first + 1) n f)

-- where there are fewer, a key has no value
pub unmapped : {A : Type 0} (first n : ℕ) (f : ℕ → Option A) → len (mapped first n f) < n
    → (q : ℕ) × ((first ≤ q) × ((q < first + n) × (f q ≡ None)))
unmapped first zero f few = absurd (omega arith)
unmapped {A} first (suc n) f few =
    here (f first) refl (λ one. unmapped (first + 1) n f (omega (arith, len-mapped first n f, one)))
  where
    here : (o : Option A) → f first ≡ o
        → (◌≡◌ {A = ℕ} (cond (is_some (f first)) 1 0) 1
        → (q : ℕ) × ((first + 1 ≤ q) × ((q < first + 1 + n) × (f q ≡ None))))
        → (q : ℕ) × ((first ≤ q) × ((q < first + suc n) × (f q ≡ None)))
    here None is rest = (first, (omega arith, (omega arith, is)))
    here (Some x) is rest =
        let found : (q : ℕ) × ((first + 1 ≤ q) × ((q < first + 1 + n) × (f q ≡ None))) =
        rest (ap (λ (o : Option A). cond (is_some o) 1 0) is) in
        (found.0, (omega (arith, found.1.0), (omega (arith, found.1.1.0), found.1.1.1)))

-- a new key counts one more, and one that goes one fewer
pub len-insert_new : {A : Type 0} (m : FinMap nat_cmp A) (k : ℕ) (x : A) → get m k ≡ None
    → len (insert m k x) ≡ len m + 1
len-insert_new m k x none = len-insert nat_cmp_total m k x
    ∙ ap (λ o. cond (is_some o) (len m) (len m + 1)) none

-- and one that may be new at most one more
pub len-insert_le : {A : Type 0} (m : FinMap nat_cmp A) (k : ℕ) (x : A) → len (insert m k x) ≤ len m + 1
len-insert_le m k x = by (is_some (get m k)) (len-insert nat_cmp_total m k x)
  where
    by : (there : Bool) → len (insert m k x) ≡ cond there (len m) (len m + 1) → len (insert m k x) ≤ len m + 1
    by true is = omega (arith, is)
    by false is = omega (arith, is)
