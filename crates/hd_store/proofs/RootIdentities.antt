-- The roots of a store by identity are those of its table, each with the identity of its object.
use Rattle.hd_store.proofs.StoreWords.{Addr, All, All-append, All-cons, All-nil, Bool, Contains, Err, FinMap, Global, Handle, Heap, Id, IfOk, IsStored, Kind, List, None, Ok, Option, Parts, Result, Role, Root, RootId, Slot, Some, State, T, Vec, [], ap, arith, attaches, below_all, cond, entries, entries-from_sorted, entries_sorted, false, filter, first_in, from_entries, from_sorted, get, get-from_entries, get-from_sorted, get_entry, has_object, held_by, held_of, holds, id_at, is_lt, is_none, is_sorted, later_in, len, len-entries, length, length-append, long, map, map-append, nat_cmp, nat_cmp_total, option_map, option_to_list, refl, rename_handle, role, role_renamed, root_id, root_in, root_named, roots_in, rows_by_id, same_Some, short, subst, sym, true, true≢false, unheld, ℕ, ◌&&◌, ◌++◌, ◌<◌, ◌^◌, ◌∙◌, ◌∷◌, ◌≡◌, ◌≤◌}
use Rattle.hd_scan.specs.Gathering.{root_by, roots_of}
use Rattle.hd_store.proofs.EntryMaps.{same_numbers, entries-retained}

-- ---- entries of a map with other values

module _ {X Y : Type 0} (f : ℕ → X → Y) where
  below-mapped : (x : ℕ) (es : List (ℕ × X)) → below_all nat_cmp x (map (λ e. (e.0, f e.0 e.1)) es)
      ≡ below_all nat_cmp x es
  below-mapped x [] = refl
  below-mapped x (e ∷ es) = ap (λ b. is_lt (nat_cmp x e.0) && b) (below-mapped x es)

  sorted-mapped : (es : List (ℕ × X)) → is_sorted nat_cmp (map (λ e. (e.0, f e.0 e.1)) es)
      ≡ is_sorted nat_cmp es
  sorted-mapped [] = refl
  sorted-mapped (e ∷ es) = λ i. below-mapped e.0 es i && sorted-mapped es i

  pub entries-mapped : (m : FinMap nat_cmp X)
      → entries (from_entries {R = nat_cmp} (map (λ e. (e.0, f e.0 e.1)) (entries m)))
      ≡ map (λ e. (e.0, f e.0 e.1)) (entries m)
  entries-mapped m =
      let es : List (ℕ × Y) = map (λ e. (e.0, f e.0 e.1)) (entries m) in
      let sorted : T (is_sorted nat_cmp es) = subst T (sym (sorted-mapped (entries m))) (entries_sorted m) in
      ap entries (same_numbers (from_entries {R = nat_cmp} es) (from_sorted {R = nat_cmp} es)
      (λ q. get-from_entries nat_cmp_total es q ∙ sym (get-from_sorted nat_cmp es q sorted)))
      ∙ entries-from_sorted nat_cmp es sorted

-- ---- roots by identity

held-renamed : {N M : Type 0} (f : N → M) (r : Role) (o : Option N) → held_by r (option_map f o)
    ≡ option_map f (held_by r o)
held-renamed f holds o = refl
held-renamed f short o = refl
held-renamed f long o = refl
held-renamed f attaches o = refl

module _ (h : Heap) where
  listed_as : (slot : Slot) (k : Kind) (o : Option Addr)
      → option_to_list (option_map (root_id slot k) (option_map (id_at h) o))
      ≡ map (root_named h) (option_to_list (option_map (root_by slot k) o))
  listed_as slot k None = refl
  listed_as slot k (Some a) = refl

  one_named : (e : ℕ × Handle Addr) → root_in root_id (e.0, rename_handle (id_at h) e.1)
      ≡ map (root_named h) (root_in root_by e)
  one_named e =
      ap (λ (o : Option Id). option_to_list (option_map (root_id (record { 0 = e.0 }) e.1.kind) o))
      (ap (λ r. held_by r (option_map (id_at h) e.1.target)) (role_renamed (id_at h) e.1.kind e.1.extra)
      ∙ held-renamed (id_at h) (role e.1) e.1.target)
      ∙ listed_as (record { 0 = e.0 }) e.1.kind (held_of e.1)

  all_named : (es : List (ℕ × Handle Addr))
      → roots_in root_id (map (λ e. (e.0, rename_handle (id_at h) e.1)) es)
      ≡ map (root_named h) (roots_in root_by es)
  all_named [] = refl
  all_named (e ∷ es) =
      (λ i. one_named e i ++ all_named es i)
      ∙ sym (map-append (root_named h) (root_in root_by e) (roots_in root_by es))

  pub roots-are : (rows : FinMap nat_cmp (Handle Addr)) → map (root_named h) (roots_in root_by (entries rows))
      ≡ roots_in root_id (entries (rows_by_id h rows))
  unfolding rows_by_id
  roots-are rows =
      sym (all_named (entries rows))
      ∙ ap (roots_in root_id) (sym (entries-mapped (λ slot row. rename_handle (id_at h) row) rows))

-- ---- the slots that the weak table holds are no roots

none_held : (e : ℕ × Handle Addr) → role e.1 ≡ attaches → root_in root_by e ≡ []
none_held e is = ap (λ r. option_to_list (option_map (root_by (record { 0 = e.0 }) e.1.kind)
    (held_by r e.1.target))) is

unheld_in : (p : ℕ → Bool) (es : List (ℕ × Handle Addr))
    → ((k : ℕ) (v : Handle Addr) → Contains es (k, v) → p k ≡ false → role v ≡ attaches)
    → roots_in root_by (filter (λ e. p e.0) es) ≡ roots_in root_by es
unheld_in p [] none = refl
unheld_in p (e ∷ es) none =
    let rest = unheld_in p es (λ k v among. none k v (later_in e es (k, v) among)) in
    by (p e.0) refl rest
  where
    by : (b : Bool) → p e.0 ≡ b → roots_in root_by (filter (λ e. p e.0) es) ≡ roots_in root_by es
        → roots_in root_by (filter (λ e. p e.0) (e ∷ es)) ≡ roots_in root_by (e ∷ es)
    by true is rest =
        (λ i. roots_in root_by (cond (is i) (e ∷ filter (λ e. p e.0) es) (filter (λ e. p e.0) es)))
        ∙ ap (λ rs. root_in root_by e ++ rs) rest
    by false is rest =
        (λ i. roots_in root_by (cond (is i) (e ∷ filter (λ e. p e.0) es) (filter (λ e. p e.0) es)))
        ∙ rest ∙ (λ i. sym (none_held e (none e.0 e.1 (first_in e es) is)) i ++ roots_in root_by es)

pub unheld-roots : (f : Parts) → IsStored f
    → roots_in root_by (entries (unheld f.table.rows f.weak.held)) ≡ roots_in root_by (entries f.table.rows)
unheld-roots f stored =
    ap (λ es. roots_in root_by es) (entries-retained f.table.rows (λ slot. is_none (get f.weak.held slot)))
    ∙ unheld_in (λ slot. is_none (get f.weak.held slot)) (entries f.table.rows) (λ k v among held.
    by k v (get_entry f.table.rows k v among) (get f.weak.held k) refl held)
  where
    by : (k : ℕ) (v : Handle Addr) → get f.table.rows k ≡ Some v → (o : Option (Option Id))
        → get f.weak.held k ≡ o → is_none (get f.weak.held k) ≡ false → role v ≡ attaches
    by k v is None e held = absurd (true≢false (sym (ap is_none e) ∙ held))
    by k v is (Some key) e held =
        let t = stored.tied k key e in
        ap role (same_Some v _ (sym is ∙ t.row))

-- ---- what roots reference are objects

module _ (h : Heap) where
  abbrev IsSound : Root → Type 0
  IsSound root = has_object h root.at ≡ true

  holds_object : (slot : Slot) (k : Kind) (r : Role) (o : Option Addr)
      → ((a : Addr) → o ≡ Some a → has_object h a ≡ true)
      → All IsSound (option_to_list (option_map (root_by slot k) (held_by r o)))
  holds_object slot k holds None is = All-nil IsSound
  holds_object slot k holds (Some a) is = All-cons IsSound (root_by slot k a) [] (is a refl) (All-nil IsSound)
  holds_object slot k short o is = All-nil IsSound
  holds_object slot k long o is = All-nil IsSound
  holds_object slot k attaches o is = All-nil IsSound

  all_hold : (es : List (ℕ × Handle Addr))
      → ((k : ℕ) (v : Handle Addr) → Contains es (k, v) → (a : Addr) → v.target ≡ Some a
      → has_object h a ≡ true)
      → All IsSound (roots_in root_by es)
  all_hold [] of = All-nil IsSound
  all_hold (e ∷ es) of =
      All-append IsSound (root_in root_by e) (roots_in root_by es)
      (holds_object (record { 0 = e.0 }) e.1.kind (role e.1) e.1.target (of e.0 e.1 (first_in e es)))
      (all_hold es (λ k v among. of k v (later_in e es (k, v) among)))

pub roots-hold : (f : Parts) → IsStored f
    → All (λ (root : Root). has_object f.heap root.at ≡ true) (roots_of f.table)
roots-hold f stored =
    all_hold f.heap (entries f.table.rows)
    (λ k v among a is. stored.whole.targets k v a (get_entry f.table.rows k v among) is)

-- ---- there are no more roots than handles

one_at_most : {A : Type 0} (o : Option A) → length (option_to_list o) ≤ 1
one_at_most None = omega arith
one_at_most (Some x) = omega arith

few-in : (es : List (ℕ × Handle Id)) → length (roots_in root_id es) ≤ length es
few-in [] = omega arith
few-in (e ∷ es) =
    let both = length-append (root_in root_id e) (roots_in root_id es) in
    let one : length (root_in root_id e) ≤ 1 =
    one_at_most (option_map (root_id (record { 0 = e.0 }) e.1.kind) (held_of e.1)) in
    omega (arith, both, one, few-in es)

pub few-roots : {E : Type 0} (s : State) (live : ℕ) (r : Result (Vec RootId Global) E) → live ≡ len s.handles
    → live < 2 ^ 32 → IfOk r (λ roots. roots.items ≡ roots_in root_id (entries s.handles))
    → IfOk r (λ roots. length roots.items < 2 ^ 32)
few-roots s live (Ok roots) is small listed =
    omega (arith, ap length listed, few-in (entries s.handles), len-entries s.handles, is, small)
few-roots s live (Err e) is small listed = tt
