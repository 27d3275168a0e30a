-- The slots of the weak table: what a search in them finds, and their rows in the scene.
use Rattle.hd_model.proofs.Basics.{Bool, Contains, Handle, Id, IsHeld, IsSome, List, None, Option, Slot, Some, State, T, WeakEntry, [], ap, arith, attaches, below_all, cleared, cond, entries, entries_sorted, entry_value, eq-eqb, eqb-true, false, get, has_key, idle_slot, inl, inr, is_idle, is_some, is_sorted, le_refl, nat_cmp, none-some, not, option_and_then, option_map, option_or, refl, role, row_of, same_Some, secondary, slot_of_key, subst, swept, sym, true, true≢false, value_at, weak_handle, weak_slot_where, ℕ, ⊎_elim, ◌<◌, ◌∙◌, ◌∷◌, ◌≡◌, ◌≤◌, ◌⊎◌}
use Rattle.std.specs.List.{find}
use Rattle.hd_model.proofs.Members.{not_in_none, first_in, later_in, member_cases}
use Rattle.hd_model.proofs.MapEntries.{both, below, get_entry, entry_of}
use Rattle.hd_model.proofs.SceneCollection.{mapped_value}

-- what a search of a list finds
module _ {A : Type 0} (test : A → Bool) where
  passing : (xs : List A) (x : A) → find test xs ≡ Some x → Contains xs x × (test x ≡ true)
  passing [] x e = absurd (none-some x e)
  passing (y ∷ xs) x e = by (passing xs x) (test y) refl e
    where
      by : (find test xs ≡ Some x → Contains xs x × (test x ≡ true)) → (b : Bool) → test y ≡ b
          → cond b (Some y) (find test xs) ≡ Some x → Contains (y ∷ xs) x × (test x ≡ true)
      by rest true at e =
          let same = same_Some y x e in
          (subst (λ z. Contains (y ∷ xs) z) same (first_in y xs), subst (λ z. test z ≡ true) same at)
      by rest false at e = let (there, passes) = rest e in (later_in y xs x there, passes)

  none_passing : (xs : List A) → find test xs ≡ None → (x : A) → Contains xs x → test x ≡ true → ⊥
  none_passing [] e x there passes = not_in_none x there
  none_passing (y ∷ xs) e x there passes = by
      (λ none later. none_passing xs none x later passes) (test y) refl e
    where
      by : (find test xs ≡ None → Contains xs x → ⊥) → (b : Bool) → test y ≡ b
          → cond b (Some y) (find test xs) ≡ None → ⊥
      by rest true at e = none-some y (sym e)
      by rest false at e =
          ⊎_elim (λ same. true≢false (sym passes ∙ ap test (sym same)
          ∙ at)) (rest e) (member_cases y xs x there)

-- of entries in rising order, the first that passes has the least key
least_passing : {A : Type 0} (test : ℕ × A → Bool) (es : List (ℕ × A)) → T (is_sorted nat_cmp es)
    → (p : ℕ × A) → find test es ≡ Some p → (e : ℕ × A) → Contains es e → test e ≡ true → p.0 ≤ e.0
least_passing test [] sorted p found e there passes = absurd (not_in_none e there)
least_passing test (f ∷ es) sorted p found e there passes =
    let parts : T (below_all nat_cmp f.0 es) × T (is_sorted nat_cmp es) = both _ _ sorted in
    by parts.0 (λ is later. least_passing test es parts.1 p is e later passes) (test f) refl found
  where
    by : T (below_all nat_cmp f.0 es) → (find test es ≡ Some p → Contains es e → p.0 ≤ e.0) → (b : Bool)
        → test f ≡ b → cond b (Some f) (find test es) ≡ Some p → p.0 ≤ e.0
    by above rest true at found =
        let first = same_Some f p found in
        subst (λ g. g.0 ≤ e.0) first
        (⊎_elim (λ same. subst (λ (g : ℕ × _). f.0 ≤ g.0) same (le_refl f.0))
        (λ later. let low : f.0 < e.0 = below f.0 es above e later in omega arith)
        (member_cases f es e there))
    by above rest false at found =
        ⊎_elim (λ same. absurd (true≢false (sym passes ∙ ap test (sym same) ∙ at))) (rest found)
        (member_cases f es e there)

mapped_none : {A B : Type 0} (f : A → B) (o : Option A) → option_map f o ≡ None → o ≡ None
mapped_none f None e = refl
mapped_none f (Some x) e = absurd (none-some (f x) (sym e))

abbrev Content : Type 0
Content = Option (WeakEntry Id)

-- what is found at a slot of the weak table by a test, that it is the least, and that nothing is found only
-- where no slot passes
module _ (test : Content → Bool) (s : State) where
  pub where_found : (slot : Slot) → weak_slot_where test s ≡ Some slot
      → (c : Content) × ((get s.weak slot.0 ≡ Some c) × (test c ≡ true))
  where_found slot e =
      let (p, at) = mapped_value (λ (q : ℕ × Content). record { 0 = q.0 }) _ slot e in
      let (there, passes) = passing (λ (q : ℕ × Content). test q.1) (entries s.weak) p at.0 in
      (p.1, (ap (λ (x : Slot). get s.weak x.0) (sym at.1) ∙ get_entry s.weak p.0 p.1 there, passes))

  pub where_least : (slot : Slot) → weak_slot_where test s ≡ Some slot → (q : ℕ) (c : Content)
      → get s.weak q ≡ Some c → test c ≡ true → slot.0 ≤ q
  where_least slot e q c is passes =
      let (p, at) = mapped_value (λ (x : ℕ × Content). record { 0 = x.0 }) _ slot e in
      subst (λ (x : Slot). x.0 ≤ q) at.1
      (least_passing (λ (x : ℕ × Content). test x.1) (entries s.weak) (entries_sorted s.weak) p at.0 (q, c)
      (entry_of s.weak q c is) passes)

  pub where_none : weak_slot_where test s ≡ None → (q : ℕ) (c : Content) → get s.weak q ≡ Some c
      → test c ≡ true → ⊥
  where_none e q c is passes =
      none_passing (λ (x : ℕ × Content). test x.1) (entries s.weak) (mapped_none _ _ e) (q, c)
      (entry_of s.weak q c is) passes

-- no entry of the weak table has a key
abbrev pub HasNoKey : State → Id → Type 0
HasNoKey s key = (q : ℕ) (x : WeakEntry Id) → get s.weak q ≡ Some (Some x) → x.key ≡ key → ⊥

-- a slot of the weak table has an entry with a key
pub record HasKey (s : State) (key : Id) (slot : ℕ) : Type 0 where
  pub entry : WeakEntry Id
  pub held : get s.weak slot ≡ Some (Some entry)
  pub keyed : entry.key ≡ key

module _ (s : State) where
  keyed_by : (key : Id) (slot : ℕ) (c : Content) → get s.weak slot ≡ Some c → has_key key c ≡ true
      → HasKey s key slot
  keyed_by key slot None is h = absurd (true≢false (sym h))
  keyed_by key slot (Some x) is h = record {
    entry = x;
    held = is;
    keyed = let e = eqb-true x.key.0 key.0 h in λ i. record { 0 = e i };
  }

  pub key_found : (key : Id) (slot : Slot) → slot_of_key s key ≡ Some slot → HasKey s key slot.0
  key_found key slot e = let (c, at) = where_found (has_key key) s slot e in keyed_by key slot.0 c at.0 at.1

  has_it : (key : Id) (x : WeakEntry Id) → x.key ≡ key → has_key key (Some x) ≡ true
  has_it key x same = eq-eqb x.key.0 key.0 (ap (λ (y : Id). y.0) same)

  pub key_none : (key : Id) → slot_of_key s key ≡ None → HasNoKey s key
  key_none key e q x is same = where_none (has_key key) s e q (Some x) is (has_it key x same)

  idle_by : (slot : ℕ) (c : Content) → get s.weak slot ≡ Some c → is_idle c ≡ true
      → get s.weak slot ≡ Some None
  idle_by slot None is h = is
  idle_by slot (Some x) is h = absurd (true≢false (sym h))

  pub idle_found : (slot : Slot) → idle_slot s ≡ Some slot → get s.weak slot.0 ≡ Some None
  idle_found slot e = let (c, at) = where_found is_idle s slot e in idle_by slot.0 c at.0 at.1

  pub value_is : (slot : Slot) (x : WeakEntry Id) → get s.weak slot.0 ≡ Some (Some x)
      → value_at s slot ≡ x.value
  value_is slot x e = ap (option_and_then entry_value) e

-- what the weak table attaches by a slot is a dependent row, and a collection clears it as one
pub weak_attaches : (c : Content) → role (weak_handle c) ≡ attaches
weak_attaches None = refl
weak_attaches (Some x) = refl

pub cleared_weak : (reach kept : Id → Bool) (c : Content)
    → cleared reach kept (weak_handle c) ≡ weak_handle (swept kept c)
cleared_weak reach kept None = refl
cleared_weak reach kept (Some x) = by (kept x.key)
  where
    by : (b : Bool)
        → record {
          kind = (weak_handle (Some x)).kind;
          target = cond (not b) None (Some x.key);
          extra = cond (not b) (secondary None) (secondary x.value);
        } ≡ weak_handle (cond b (Some x) None)
    by true = refl
    by false = refl

-- the row of a slot: its handle, or what the weak table attaches by it
module _ (s : State) where
  pub handle_row : (slot : ℕ) (h : Handle Id) → get s.handles slot ≡ Some h → row_of s slot ≡ Some h
  handle_row slot h e = ap (λ o. option_or o (option_map weak_handle (get s.weak slot))) e

  pub weak_row : (slot : ℕ) (c : Content) → get s.handles slot ≡ None → get s.weak slot ≡ Some c
      → row_of s slot ≡ Some (weak_handle c)
  weak_row slot c none e =
      ap (λ o. option_or o (option_map weak_handle (get s.weak slot))) none ∙ ap (option_map weak_handle) e

  pub row_cases : (slot : ℕ) (h : Handle Id) → row_of s slot ≡ Some h → (get s.handles slot ≡ Some h)
      ⊎ ((get s.handles slot ≡ None) × ((c : Content) × ((get s.weak slot ≡ Some c) × (weak_handle c ≡ h))))
  row_cases slot h e = by (get s.handles slot) refl e
    where
      by : (o : Option (Handle Id)) → get s.handles slot ≡ o
          → option_or o (option_map weak_handle (get s.weak slot)) ≡ Some h → (get s.handles slot ≡ Some h)
          ⊎ ((get s.handles slot ≡ None) × ((c : Content) × ((get s.weak slot ≡ Some c) ×
          (weak_handle c ≡ h))))
      by None is e = inr (is, mapped_value weak_handle (get s.weak slot) h e)
      by (Some g) is e = inl (is ∙ e)

  -- what a handle holds, a row does
  pub held_row : (x : Id) → IsHeld (λ slot. get s.handles slot) x → IsHeld (row_of s) x
  held_row x h = record {
    slot = h.slot;
    handle = h.handle;
    is_stored = handle_row h.slot h.handle h.is_stored;
    holds = h.holds;
    target = h.target;
  }

-- handles and slots of the weak table after a collection are rows after it
pub rows_cleared : (s t : State) (reach kept : Id → Bool)
    → ((slot : ℕ) → get t.handles slot ≡ option_map (cleared reach kept) (get s.handles slot))
    → ((slot : ℕ) → get t.weak slot ≡ option_map (swept kept) (get s.weak slot)) → (slot : ℕ)
    → row_of t slot ≡ option_map (cleared reach kept) (row_of s slot)
rows_cleared s t reach kept handles weak slot =
    (λ i. option_or (handles slot i) (option_map weak_handle (weak slot i)))
    ∙ by (get s.handles slot) (get s.weak slot)
  where
    by : (o : Option (Handle Id)) (u : Option Content)
        → option_or (option_map (cleared reach kept) o) (option_map weak_handle (option_map (swept kept) u))
        ≡ option_map (cleared reach kept) (option_or o (option_map weak_handle u))
    by (Some g) u = refl
    by None None = refl
    by None (Some c) = ap Some (sym (cleared_weak reach kept c))

-- where a collection clears no row of a slot, the handle in it and the entry in it stay
module _ (s : State) (reach kept : Id → Bool) (slot : ℕ)
    (same : (h : Handle Id) → row_of s slot ≡ Some h → cleared reach kept h ≡ h) where
  pub handle_left : (o : Option (Handle Id)) → get s.handles slot ≡ o → option_map (cleared reach kept) o ≡ o
  handle_left None e = refl
  handle_left (Some h) e = ap Some (same h (handle_row s slot h e))

  entry_left : (x : WeakEntry Id) → row_of s slot ≡ Some (weak_handle (Some x)) → swept kept (Some x) ≡ Some x
  entry_left x row =
      by (kept x.key) (ap (λ (h : Handle Id). h.target) (sym (cleared_weak reach kept (Some x)) ∙ same _ row))
    where
      by : (b : Bool) → (weak_handle (cond b (Some x) None)).target ≡ Some x.key
          → cond b (Some x) None ≡ Some x
      by true e = refl
      by false e = absurd (none-some x.key e)

  pub weak_left : (IsSome (get s.weak slot) → get s.handles slot ≡ None) → (o : Option Content)
      → get s.weak slot ≡ o → option_map (swept kept) o ≡ o
  weak_left apart None e = refl
  weak_left apart (Some None) e = refl
  weak_left apart (Some (Some x)) e =
      ap Some (entry_left x (weak_row s slot (Some x) (apart (ap is_some e)) e))
