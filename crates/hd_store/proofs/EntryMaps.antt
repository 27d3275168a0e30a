-- Maps by number that are made from the entries of another: with the same keys, and with new ones.
use Rattle.hd_store.proofs.StoreWords.{Bool, Contains, FinMap, List, None, Some, T, [], ap, cases_eq, cond, entries, entries-from_sorted, entries_sorted, find, find-where_key, first_in, found_first, found_later, from_entries, from_sorted, get, get-entries, get-from_entries, get-from_sorted, get-retain_keys, get_entry, inl, inr, is_some, is_sorted-where_key, later_in, map, member_cases, nat_cmp, nat_cmp-IsAntisymmetric, nat_cmp_total, not_in_none, option_map, refl, retain_keys, same_Some, same_map, subst, sym, where_key, ℕ, ⊎_elim, ◌∙◌, ◌∷◌, ◌≡◌, arith, empty, len-empty, len-entries, length}
use Rattle.std.specs.declared.cmp.Ordering.TheVariants.{Equal}
use Rattle.hd_model.proofs.MapEntries.{entry_of}

-- two maps with the same items are equal
pub same_numbers : {A : Type 0} (m n : FinMap nat_cmp A) → ((q : ℕ) → get m q ≡ get n q) → m ≡ n
same_numbers m n is = same_map nat_cmp_total nat_cmp-IsAntisymmetric m n is

-- the entries whose key passes a test
pub entries-retained : {X : Type 0} (m : FinMap nat_cmp X) (p : ℕ → Bool)
    → entries (retain_keys m p) ≡ where_key nat_cmp p (entries m)
entries-retained m p =
    let es = where_key nat_cmp p (entries m) in
    let sorted = is_sorted-where_key nat_cmp p (entries m) (entries_sorted m) in
    ap entries (same_numbers (retain_keys m p) (from_sorted {R = nat_cmp} es) (λ q.
    let alike : (x : ℕ) → nat_cmp q x ≡ Equal → p x ≡ p q =
    λ x same. ap p (sym (nat_cmp-IsAntisymmetric q x same)) in
    get-retain_keys m p q alike ∙ ap (λ o. cond (p q) o None) (get-entries m q)
    ∙ sym (find-where_key nat_cmp p q alike (entries m)) ∙ sym (get-from_sorted nat_cmp es q sorted)))
    ∙ entries-from_sorted nat_cmp es sorted

-- the entries with other values
pub find-mapped : {X Y : Type 0} (f : ℕ → X → Y) (k : ℕ) (es : List (ℕ × X))
    → find nat_cmp k (map (λ e. (e.0, f e.0 e.1)) es) ≡ option_map (f k) (find nat_cmp k es)
find-mapped f k [] = refl
find-mapped f k (e ∷ es) =
    elim (cases_eq k e.0) [
      | inl same ↦ found_first k e.0 (f e.0 e.1) (find nat_cmp k (map (λ w. (w.0, f w.0 w.1)) es)) same
          ∙ ap (λ j. Some (f j e.1)) (sym same) ∙ ap (option_map (f k))
          (sym (found_first k e.0 e.1 (find nat_cmp k es) same))
      | inr apart ↦ found_later k e.0 (Some (f e.0 e.1))
          (find nat_cmp k (map (λ w. (w.0, f w.0 w.1)) es)) apart ∙ find-mapped f k es ∙ ap (option_map (f k))
          (sym (found_later k e.0 (Some e.1) (find nat_cmp k es) apart))
    ]

-- a read of the map with the same keys and other values
pub get-mapped : {X Y : Type 0} (f : ℕ → X → Y) (m : FinMap nat_cmp X) (k : ℕ)
    → get (from_entries {R = nat_cmp} (map (λ e. (e.0, f e.0 e.1)) (entries m))) k ≡ option_map (f k)
    (get m k)
get-mapped f m k =
    get-from_entries nat_cmp_total (map (λ e. (e.0, f e.0 e.1)) (entries m)) k ∙ find-mapped f k (entries m)
    ∙ ap (option_map (f k)) (sym (get-entries m k))

-- the entries under other keys, which the value gives, and with other values
abbrev pub rekeyed : {X Y : Type 0} → (X → ℕ) → (ℕ → X → Y) → List (ℕ × X) → List (ℕ × Y)
rekeyed key f es = map (λ e. (key e.1, f e.0 e.1)) es

-- what is at a key of the map under other keys
pub record Under {X Y : Type 0} (key : X → ℕ) (f : ℕ → X → Y) (m : FinMap nat_cmp X) (x : ℕ)
    (y : Y) : Type 0 where
  pub at : ℕ
  pub value : X
  pub is_stored : get m at ≡ Some value
  pub keyed : key value ≡ x
  pub is : y ≡ f at value

pub record Source {X Y : Type 0} (key : X → ℕ) (f : ℕ → X → Y) (es : List (ℕ × X)) (x : ℕ)
    (y : Y) : Type 0 where
  pub at : ℕ
  pub value : X
  pub among : Contains es (at, value)
  pub keyed : key value ≡ x
  pub is : y ≡ f at value

pub source : {X Y : Type 0} (key : X → ℕ) (f : ℕ → X → Y) (es : List (ℕ × X)) (x : ℕ) (y : Y)
    → find nat_cmp x (rekeyed key f es) ≡ Some y → Source key f es x y
source key f [] x y is = absurd (subst T (sym (ap is_some is)) tt)
source key f (e ∷ es) x y is =
    elim (cases_eq x (key e.1)) [
      | inl same ↦ record {
        at = e.0;
        value = e.1;
        among = first_in e es;
        keyed = sym same;
        is = same_Some y (f e.0 e.1)
            (sym is ∙ found_first x (key e.1) (f e.0 e.1) (find nat_cmp x (rekeyed key f es)) same);
      }
      | inr apart ↦ let s = source key f es x y
          (sym (found_later x (key e.1) (Some (f e.0 e.1)) (find nat_cmp x (rekeyed key f es)) apart) ∙ is) in
          record {
            at = s.at;
            value = s.value;
            among = later_in e es (s.at, s.value) s.among;
            keyed = s.keyed;
            is = s.is;
          }
    ]

there : {X Y : Type 0} (key : X → ℕ) (f : ℕ → X → Y) (es : List (ℕ × X)) (e : ℕ × X) → Contains es e
    → (y : Y) × (find nat_cmp (key e.1) (rekeyed key f es) ≡ Some y)
there key f [] e m = absurd (not_in_none e m)
there {X} key f (d ∷ es) e m =
    elim (cases_eq (key e.1) (key d.1)) [
      | inl same ↦ (
        f d.0 d.1,
        found_first (key e.1) (key d.1) (f d.0 d.1) (find nat_cmp (key e.1) (rekeyed key f es)) same,
      )
      | inr apart ↦ let rest = there key f es e
          (⊎_elim (λ is. absurd (apart (ap (λ (g : ℕ × X). key g.1) (sym is)))) (λ later. later)
          (member_cases d es e m)) in (
            rest.0,
            found_later (key e.1) (key d.1) (Some (f d.0 d.1))
                (find nat_cmp (key e.1) (rekeyed key f es)) apart ∙ rest.1,
          )
    ]

-- no two values have one key
abbrev pub AreApart : {X : Type 0} → (X → ℕ) → FinMap nat_cmp X → Type 0
AreApart {X} key m = (a b : ℕ) (p q : X) → get m a ≡ Some p → get m b ≡ Some q → key p ≡ key q → a ≡ b

module _ {X Y : Type 0} (key : X → ℕ) (f : ℕ → X → Y) (m : FinMap nat_cmp X) where
  -- each value under the new keys comes from one under the old
  pub under : (x : ℕ) (y : Y) → get (from_entries {R = nat_cmp} (map (λ e. (key e.1, f e.0 e.1)) (entries m)))
      x ≡ Some y → Under key f m x y
  under x y is =
      let s = source key f (entries m) x y
      (sym (get-from_entries nat_cmp_total (rekeyed key f (entries m)) x) ∙ is) in
      record {
        at = s.at;
        value = s.value;
        is_stored = get_entry m s.at s.value s.among;
        keyed = s.keyed;
        is = s.is;
      }

  -- and each value under the old keys is under its new one
  pub get-rekeyed : AreApart key m → (a : ℕ) (p : X) → get m a ≡ Some p
      → get (from_entries {R = nat_cmp} (map (λ e. (key e.1, f e.0 e.1)) (entries m))) (key p) ≡ Some (f a p)
  get-rekeyed apart a p is =
      let found = there key f (entries m) (a, p) (entry_of m a p is) in
      let it : get (from_entries {R = nat_cmp} (rekeyed key f (entries m))) (key p) ≡ Some found.0 =
      get-from_entries nat_cmp_total (rekeyed key f (entries m)) (key p) ∙ found.1 in
      let u = under (key p) found.0 it in
      let same : u.at ≡ a = apart u.at a u.value p u.is_stored is u.keyed in
      let value : u.value ≡ p = same_Some u.value p (sym u.is_stored ∙ ap (get m) same ∙ is) in
      it ∙ ap Some (u.is ∙ ap (λ j. f j u.value) same ∙ ap (f a) value)

-- a map of nothing has no entry
pub no_entries : {A : Type 0} → entries (empty {X = A} {R = nat_cmp}) ≡ []
no_entries {A} = by (entries (empty {X = A} {R = nat_cmp}))
    (sym (len-entries (empty {X = A} {R = nat_cmp})) ∙ len-empty nat_cmp A)
  where
    by : (es : List (ℕ × A)) → length es ≡ 0 → es ≡ []
    by [] none = refl
    by (e ∷ es) none = absurd (omega (arith, none))
