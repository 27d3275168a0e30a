-- A finite map by numbers against the lists of its entries, keys and values; and how many keys it has.
use Rattle.hd_model.proofs.Basics.{AllPairs, Bool, Contains, FinMap, IsSome, List, None, Option, Some, T, [], ap, arith, below_all, cases_eq, cond, entries, entries_sorted, eq-eqb, eq_by_cmp, false, false≢true, find, get, get-entries, is_lt, is_some, is_sorted, keys, len, len-entries, length-map, list_any, map, nat_cmp, nat_tests, ne_eqb, none-some, or_cases, or_left, or_right, refl, same_Some, subst, sym, true, unsigned_tied, values, ℕ, ⊎_elim, ◌&&◌, ◌<◌, ◌∙◌, ◌∷◌, ◌≡◌, ◌≢◌}
use Rattle.hd_model.specs.Counting.{Counts}
use Rattle.hd_model.proofs.Members.{not_in_none, first_in, later_in, member_cases, mapped_in, mapped_from, pairs_none, pairs_cons, pairs_like, pairs_mapped}

-- what is found at a key that is the first one, and at another
pub found_first : {A : Type 0} (q i : ℕ) (x : A) (o : Option A) → q ≡ i
    → cond (eq_by_cmp nat_cmp q i) (Some x) o ≡ Some x
found_first q i x o same = ap (λ b. cond b (Some x) o) (unsigned_tied q i ∙ eq-eqb q i same)

pub found_later : {A : Type 0} (q i : ℕ) (x o : Option A) → (q ≡ i → ⊥) → cond (eq_by_cmp nat_cmp q i) x o ≡ o
found_later q i x o apart = ap (λ b. cond b x o) (unsigned_tied q i ∙ ne_eqb q i apart)

pub some_value : {A : Type 0} (o : Option A) → is_some o ≡ true → (x : A) × (o ≡ Some x)
some_value None h = absurd (false≢true h)
some_value (Some x) h = (x, refl)

pub none_from : {X : Type 0} (o : Option X) → (IsSome o → ⊥) → o ≡ None
none_from None h = refl
none_from (Some x) h = absurd (h refl)

pub both : (a b : Bool) → T (a && b) → T a × T b
both true b p = (tt, p)
both false b p = absurd p

pub less : (x y : ℕ) → T (is_lt (nat_cmp x y)) → x < y
less x y h = grind (arith, nat_tests)

module _ {A : Type 0} where
  -- a key below all keys of a list is below each
  pub below : (x : ℕ) (es : List (ℕ × A)) → T (below_all nat_cmp x es) → (e : ℕ × A) → Contains es e → x < e.0
  below x [] h e c = absurd (not_in_none e c)
  below x (f ∷ es) h e c =
      let parts : T (is_lt (nat_cmp x f.0)) × T (below_all nat_cmp x es) = both _ _ h in
      ⊎_elim (λ same. subst (λ (g : ℕ × A). x < g.0) same (less x f.0 parts.0))
      (λ later. below x es parts.1 e later) (member_cases f es e c)

  -- what is found in a sorted list is an entry, and each entry is found
  pub find_entry : (es : List (ℕ × A)) → T (is_sorted nat_cmp es) → (e : ℕ × A) → Contains es e
      → find nat_cmp e.0 es ≡ Some e.1
  find_entry [] h e c = absurd (not_in_none e c)
  find_entry (f ∷ es) h e c =
      let parts : T (below_all nat_cmp f.0 es) × T (is_sorted nat_cmp es) = both _ _ h in
      ⊎_elim (λ same. found_first e.0 f.0 f.1 (find nat_cmp e.0 es) (ap (λ (g : ℕ × A). g.0) (sym same))
      ∙ ap (λ (g : ℕ × A). Some g.1) same)
      (λ later. let above : f.0 < e.0 = below f.0 es parts.0 e later in
      found_later e.0 f.0 (Some f.1) (find nat_cmp e.0 es) (λ same. omega arith)
      ∙ find_entry es parts.1 e later)
      (member_cases f es e c)

  pub entry_found : (es : List (ℕ × A)) (k : ℕ) (v : A) → find nat_cmp k es ≡ Some v → Contains es (k, v)
  entry_found [] k v e = absurd (none-some v e)
  entry_found (f ∷ es) k v e =
      ⊎_elim
      (λ same. let value : f.1 ≡ v =
      same_Some f.1 v (sym (found_first k f.0 f.1 (find nat_cmp k es) same) ∙ e) in
      let entry : f ≡ (k, v) = λ i. (sym same i, value i) in
      subst (λ g. Contains (f ∷ es) g) entry (first_in f es))
      (λ other. later_in f es (k, v)
      (entry_found es k v (sym (found_later k f.0 (Some f.1) (find nat_cmp k es) other) ∙ e)))
      (cases_eq k f.0)

  pub keys_rise : (es : List (ℕ × A)) → T (is_sorted nat_cmp es)
      → AllPairs (λ x y. x < y) (map (λ (e : ℕ × A). e.0) es)
  keys_rise [] h = pairs_none (λ x y. x < y)
  keys_rise (f ∷ es) h =
      let parts : T (below_all nat_cmp f.0 es) × T (is_sorted nat_cmp es) = both _ _ h in
      pairs_cons (λ x y. x < y) f.0 (map (λ (e : ℕ × A). e.0) es)
      (λ y c. let (e, rest) = mapped_from (λ (g : ℕ × A). g.0) es y c in
      subst (λ k. f.0 < k) rest.1 (below f.0 es parts.0 e rest.0))
      (keys_rise es parts.1)

  pub keys_apart : (es : List (ℕ × A)) → T (is_sorted nat_cmp es)
      → AllPairs (λ x y. x ≢ y) (map (λ (e : ℕ × A). e.0) es)
  keys_apart es h = pairs_like (λ x y. x < y) (λ x y. x ≢ y) (map (λ (e : ℕ × A). e.0) es)
      (λ x y low same. absurd (omega arith)) (keys_rise es h)

module _ {X : Type 0} (m : FinMap nat_cmp X) where
  -- an entry is what is found at its key, and a value of a key is an entry
  pub get_entry : (k : ℕ) (v : X) → Contains (entries m) (k, v) → get m k ≡ Some v
  get_entry k v c = get-entries m k ∙ find_entry (entries m) (entries_sorted m) (k, v) c

  pub entry_of : (k : ℕ) (v : X) → get m k ≡ Some v → Contains (entries m) (k, v)
  entry_of k v e = entry_found (entries m) k v (sym (get-entries m k) ∙ e)

  -- what is found is a value, and a value is found at some key
  pub value_of : (k : ℕ) (v : X) → get m k ≡ Some v → Contains (values m) v
  value_of k v e = mapped_in (λ (g : ℕ × X). g.1) (entries m) (k, v) (entry_of k v e)

  pub value_found : (v : X) → Contains (values m) v → (k : ℕ) × (get m k ≡ Some v)
  value_found v c =
      let (e, rest) = mapped_from (λ (g : ℕ × X). g.1) (entries m) v c in
      (e.0, get_entry e.0 e.1 rest.0 ∙ ap (λ (x : X). Some x) rest.1)

  -- a map has as many keys as its length says, under any name for numbers that distinguishes them
  pub counts_keys : {A : Type 0} (name : ℕ → A) (number : A → ℕ) → ((k : ℕ) → number (name k) ≡ k)
      → ((x : A) → name (number x) ≡ x) → Counts (λ x. IsSome (get m (number x))) (len m)
  counts_keys name number there back = record {
    members = map name (keys m);
    apart =
        pairs_mapped (λ x y. x ≢ y) (λ x y. x ≢ y) name (keys m)
        (λ x y apart same. apart (sym (there x) ∙ ap number same ∙ there y))
        (keys_apart (entries m) (entries_sorted m));
    each = λ x h.
        let (k, at) = mapped_from name (keys m) x h in
        let (e, in_map) = mapped_from (λ (g : ℕ × X). g.0) (entries m) k at.0 in
        let found : get m (number x) ≡ Some e.1 =
        ap (get m) (sym (ap number at.1) ∙ there k ∙ sym in_map.1) ∙ get_entry e.0 e.1 in_map.0 in
        ap is_some found;
    all = λ x h.
        let (v, found) = some_value (get m (number x)) h in
        let at : Contains (keys m) (number x) =
        mapped_in (λ (g : ℕ × X). g.0) (entries m) (number x, v) (entry_of (number x) v found) in
        subst (λ y. Contains (map name (keys m)) y) (back x) (mapped_in name (keys m) (number x) at);
    number = length-map (keys m) name ∙ length-map (entries m) (λ (g : ℕ × X). g.0) ∙ sym (len-entries m);
  }

-- whether a list has something that passes a test
module _ {A : Type 0} (test : A → Bool) where
  pub any_from : (xs : List A) → list_any test xs ≡ true → (x : A) × (Contains xs x × (test x ≡ true))
  any_from [] h = absurd (false≢true h)
  any_from (y ∷ xs) h =
      ⊎_elim (λ passes. (y, (first_in y xs, passes)))
      (λ later. let (x, rest) = any_from xs later in (x, (later_in y xs x rest.0, rest.1)))
      (or_cases (test y) (list_any test xs) h)

  pub any_of : (xs : List A) (x : A) → Contains xs x → test x ≡ true → list_any test xs ≡ true
  any_of [] x h passes = absurd (not_in_none x h)
  any_of (y ∷ xs) x h passes =
      ⊎_elim (λ same. or_left (test y) (list_any test xs) (ap test same ∙ passes))
      (λ later. or_right (test y) (list_any test xs) (any_of xs x later passes)) (member_cases y xs x h)
