-- What a search of the weak table of a store finds is what the machine finds in its state.
use Rattle.hd_store.proofs.StoreWords.{Addr, Bool, FinMap, Handle, HasKey, Heap, Id, IfSome, IsIdle, IsLeastIdle, IsNamed, IsNone, IsSome, IsStored, IsTied, IsWeakTable, List, LooksAt, Machine, None, Option, Parts, Row, SearchSteps, Slot, Some, WeakEntry, [], ap, arith, bucket_of, cond, entries, entries_beside, entries_in, entry_named, entry_value, extra_of, false, filter, get, id_at, idle_found, idle_slot, is_idle, is_in_bucket, is_some, key_found, key_none, length, machine_of, map, named_in, nat_cmp, option_and_then, option_map, refl, same_Some, secondary_of, slot_of_key, subst, suc, sym, true, true≢false, value_at, weak_by_id, where_least, where_none, ℕ, ◌↔◌, ◌∙◌, ◌∷◌, ◌≡◌, buckets_of, state_of, callers_of, empty, get-empty, ⊎_elim}
use Rattle.hd_model.specs.declared.handle.Extra.TheVariants.{Secondary}
use Rattle.hd_seg.specs.Row.{row_of}
use Rattle.hd_model.proofs.StepWrites.{same_slot}
use Rattle.hd_store.proofs.IdentityReadings.{no_some, is_some-map, named-is}
use Rattle.hd_store.proofs.{EntryMaps.no_entries, EntryMaps.same_numbers, HeapCallReadings.objects_named, EntryReadings.weak-get, RootIdentities.entries-mapped}

module _ (f : Parts) (m : Machine) (view : machine_of f ≡ m) where
  pub weak-read : (slot : ℕ) → get m.state.weak slot ≡ option_map
      (entry_named (id_at f.heap) (get f.table.rows slot)) (get f.weak.held slot)
  weak-read slot = ap (λ (n : Machine). get n.state.weak slot) (sym view)
      ∙ weak-get f.heap f.table.rows f.weak.held slot

  read_of : (slot : ℕ) (o : Option (Option Id)) → get f.weak.held slot ≡ o
      → get m.state.weak slot ≡ option_map (entry_named (id_at f.heap) (get f.table.rows slot)) o
  read_of slot o e = weak-read slot ∙ ap (option_map (entry_named (id_at f.heap) (get f.table.rows slot))) e

  -- a slot with an entry has its key, and an idle one has none
  pub at-entry : (slot : ℕ) (x : WeakEntry Id) → get m.state.weak slot ≡ Some (Some x)
      → get f.weak.held slot ≡ Some (Some x.key)
  at-entry slot x is = by (get f.weak.held slot) refl
    where
      by : (o : Option (Option Id)) → get f.weak.held slot ≡ o → get f.weak.held slot ≡ Some (Some x.key)
      by None e = absurd (no_some (Some x) (sym is ∙ read_of slot None e))
      by (Some None) e = absurd
          (no_some x (sym (same_Some None (Some x) (sym (read_of slot (Some None) e) ∙ is))))
      by (Some (Some k)) e = e ∙ ap (λ (y : WeakEntry Id). Some (Some y.key))
          (same_Some _ x (same_Some _ (Some x) (sym (read_of slot (Some (Some k)) e) ∙ is)))

  pub at-idle : (slot : ℕ) → get m.state.weak slot ≡ Some None → IsIdle f.weak slot
  at-idle slot is = by (get f.weak.held slot) refl
    where
      by : (o : Option (Option Id)) → get f.weak.held slot ≡ o → IsIdle f.weak slot
      by None e = absurd (no_some None (sym is ∙ read_of slot None e))
      by (Some None) e = e
      by (Some (Some k)) e = absurd (no_some _ (same_Some _ None (sym (read_of slot (Some (Some k)) e) ∙ is)))

  pub idle-at : (slot : ℕ) → IsIdle f.weak slot → get m.state.weak slot ≡ Some None
  idle-at slot is = read_of slot (Some None) is

  -- the slot with a key
  pub found-is : IsWeakTable f.weak → (key : Id) (r : Option Slot)
      → IfSome r (λ slot. HasKey f.weak key slot.0)
      → (IsNone r ↔ ((slot : ℕ) → HasKey f.weak key slot → ⊥)) → r ≡ slot_of_key m.state key
  found-is table key (Some slot) has none = by (slot_of_key m.state key) refl
    where
      by : (o : Option Slot) → slot_of_key m.state key ≡ o → Some slot ≡ slot_of_key m.state key
      by None e = absurd (key_none m.state key e slot.0 _ (read_of slot.0 (Some (Some key)) has) refl)
      by (Some other) e =
          let k = key_found m.state key other e in
          ap Some (same_slot slot other (table.apart key slot.0 other.0 has
          (at-entry other.0 k.entry k.held ∙ ap (λ i. Some (Some i)) k.keyed)))
          ∙ sym e
  found-is table key None has none = by (slot_of_key m.state key) refl
    where
      by : (o : Option Slot) → slot_of_key m.state key ≡ o → None ≡ slot_of_key m.state key
      by None e = sym e
      by (Some other) e =
          let k = key_found m.state key other e in
          absurd (none.0 refl other.0 (at-entry other.0 k.entry k.held ∙ ap (λ i. Some (Some i)) k.keyed))

  -- the least idle slot
  pub idle-is : (r : Option Slot) → IfSome r (IsLeastIdle f.weak)
      → (IsNone r ↔ ((slot : ℕ) → IsIdle f.weak slot → ⊥)) → r ≡ idle_slot m.state
  idle-is (Some slot) has none = by (idle_slot m.state) refl
    where
      by : (o : Option Slot) → idle_slot m.state ≡ o → Some slot ≡ idle_slot m.state
      by None e = absurd (where_none is_idle m.state e slot.0 None (read_of slot.0 (Some None) has.idle) refl)
      by (Some other) e =
          let low = where_least is_idle m.state other e slot.0 None (read_of slot.0 (Some None) has.idle)
          refl in
          let high = has.least other.0 (at-idle other.0 (idle_found m.state other e)) in
          ap Some (same_slot slot other (omega arith)) ∙ sym e
  idle-is None has none = by (idle_slot m.state) refl
    where
      by : (o : Option Slot) → idle_slot m.state ≡ o → None ≡ idle_slot m.state
      by None e = sym e
      by (Some other) e = absurd (none.0 refl other.0 (at-idle other.0 (idle_found m.state other e)))

-- the value of the entry in a slot is the secondary of its row
module _ (f : Parts) (m : Machine) (view : machine_of f ≡ m) (stored : IsStored f) where
  no_name : (o : Option Addr) → option_map (id_at f.heap) o ≡ None → o ≡ None
  no_name None is = refl
  no_name (Some a) is = absurd (no_some (id_at f.heap a) is)

  pub held-some : (slot : ℕ) → IsSome (get m.state.weak slot) → IsSome (get f.weak.held slot)
  held-some slot live =
      sym (is_some-map (entry_named (id_at f.heap) (get f.table.rows slot)) (get f.weak.held slot))
      ∙ sym (ap is_some (weak-read f m view slot)) ∙ live

  pub value-is : (slot : Slot) → IsSome (get m.state.weak slot.0) → (row : Handle Addr)
      → get f.table.rows slot.0 ≡ Some row
      → option_map (id_at f.heap) (secondary_of row.extra) ≡ value_at m.state slot
  value-is slot live row is = by (get f.weak.held slot.0) refl
    where
      by : (o : Option (Option Id)) → get f.weak.held slot.0 ≡ o
          → option_map (id_at f.heap) (secondary_of row.extra) ≡ value_at m.state slot
      by None e = absurd (true≢false (sym (sym (ap is_some (read_of f m view slot.0 None e)) ∙ live)))
      by (Some None) e =
          let t = stored.tied slot.0 None e in
          let target : row.target ≡ None = ap (λ (h : Handle Addr). h.target)
          (same_Some row _ (sym is ∙ t.row)) ∙ no_name t.target t.key_is in
          ap (option_map (id_at f.heap)) (stored.whole.paired slot.0 row is target)
          ∙ sym (ap (option_and_then entry_value) (read_of f m view slot.0 (Some None) e))
      by (Some (Some k)) e =
          ap (λ o. option_map (id_at f.heap) (option_and_then (λ (r : Handle Addr). secondary_of r.extra) o))
          (sym is) ∙ sym (ap (option_and_then entry_value) (read_of f m view slot.0 (Some (Some k)) e))

  -- the row of a slot of the weak table
  tied-of : (slot : ℕ) → IsSome (get m.state.weak slot)
      → (key : Option Id) × IsTied f.heap f.table.rows slot key
  tied-of slot live = by (get f.weak.held slot) refl
    where
      by : (o : Option (Option Id)) → get f.weak.held slot ≡ o
          → (key : Option Id) × IsTied f.heap f.table.rows slot key
      by None e = absurd (true≢false (sym (sym (ap is_some e) ∙ held-some slot live)))
      by (Some key) e = (key, stored.tied slot key e)

  pub weak-row-live : (slot : ℕ) → IsSome (get m.state.weak slot) → IsSome (get f.table.rows slot)
  weak-row-live slot live = ap is_some (tied-of slot live).1.row

  -- what its extra is, as a call of the table returns the row
  module _ (slot : Slot) (live : IsSome (get m.state.weak slot.0)) (r : Row)
      (is : Some r ≡ option_map row_of (get f.table.rows slot.0)) where
    abbrev value : Option Addr
    value = (tied-of slot.0 live).1.value

    extra_is : r.extra ≡ Secondary value
    extra_is = ap (λ (x : Row). x.extra)
        (same_Some r _ (is ∙ ap (option_map row_of) (tied-of slot.0 live).1.row))

    pub no-other-extra : ((v : Option Addr) → r.extra ≡ Secondary v → ⊥) → ⊥
    no-other-extra none = none value extra_is

    pub value-read : (v : Option Addr) → r.extra ≡ Secondary v
        → (named_in m.names v ≡ value_at m.state slot) × IsNamed m.names v
    value-read v it =
        let same : value ≡ v = ap (λ e. secondary_of (extra_of e)) (sym extra_is ∙ it) in
        let row = (tied-of slot.0 live).1.row in (
          ap (λ (n : Machine). named_in n.names v) (sym view) ∙ named-is f.heap v
              ∙ ap (option_map (id_at f.heap)) (sym same) ∙ value-is slot live _ row,
          subst (λ (n : Machine). IsNamed n.names v) view (objects_named f.heap v (λ y e.
              stored.whole.secondaries slot.0 _ y row (same ∙ e))),
        )

-- no slot has a key that the machine's table has not
pub not-there : (f : Parts) (m : Machine) → machine_of f ≡ m → (key : Id) → slot_of_key m.state key ≡ None
    → (other : ℕ) → HasKey f.weak key other → ⊥
not-there f m view key none other has =
    key_none m.state key none other _ (read_of f m view other (Some (Some key)) has) refl

-- as many entries are in a bucket
module _ (name : Addr → Id) (rows : FinMap nat_cmp (Handle Addr)) (buckets bucket : ℕ) where
  abbrev among : ℕ × Option (WeakEntry Id) → Bool
  among e = is_in_bucket buckets bucket (option_map (λ (x : WeakEntry Id). x.key) e.1)

  abbrev read : List (ℕ × Option Id) → List (ℕ × Option (WeakEntry Id))
  read es = map (λ e. (e.0, entry_named name (get rows e.0) e.1)) es

  same_test : (slot : ℕ) (key : Option Id) → among (slot, entry_named name (get rows slot) key)
      ≡ is_in_bucket buckets bucket key
  same_test slot None = refl
  same_test slot (Some key) = refl

  counted : (b : Bool) {A B : Type 0} (x : A) (y : B) (xs : List A) (ys : List B) → length xs ≡ length ys
      → length (cond b (x ∷ xs) xs) ≡ length (cond b (y ∷ ys) ys)
  counted true x y xs ys e = ap suc e
  counted false x y xs ys e = e

  as-many : (es : List (ℕ × Option Id))
      → length (filter (λ e. is_in_bucket buckets bucket e.1) es) ≡ length (filter (λ e. among e) (read es))
  as-many [] = refl
  as-many (e ∷ es) =
      counted (is_in_bucket buckets bucket e.1) e (e.0, entry_named name (get rows e.0) e.1)
      (filter (λ e. is_in_bucket buckets bucket e.1) es) (filter (λ e. among e) (read es)) (as-many es)
      ∙ (λ i. length (cond (sym (same_test e.0 e.1) i)
      ((e.0, entry_named name (get rows e.0) e.1) ∷ filter (λ e. among e) (read es))
      (filter (λ e. among e) (read es))))

entries_weak : (h : Heap) (rows : FinMap nat_cmp (Handle Addr)) (held : FinMap nat_cmp (Option Id))
    → entries (weak_by_id h rows held)
    ≡ map (λ e. (e.0, entry_named (id_at h) (get rows e.0) e.1)) (entries held)
unfolding weak_by_id
entries_weak h rows held = entries-mapped (λ s. entry_named (id_at h) (get rows s)) held

-- a table without a slot has no entry in any bucket
no-entries : (held : FinMap nat_cmp (Option Id)) → ((slot : ℕ) → get held slot ≡ None) → (n k b c : ℕ)
    → entries_in n held b ≡ entries_in k held c
no-entries held none n k b c =
    let nothing : held ≡ empty = same_numbers held empty (λ s. none s ∙ sym (get-empty nat_cmp s)) in
    let no_list : entries held ≡ [] = ap entries nothing ∙ no_entries in
    ap (λ (es : List (ℕ × Option Id)). length (filter (λ e. is_in_bucket n b e.1) es)) no_list
    ∙ sym (ap (λ (es : List (ℕ × Option Id)). length (filter (λ e. is_in_bucket k c e.1) es)) no_list)

-- the steps of a search, in the words of the machine
pub search-steps : (f : Parts) (m : Machine) → machine_of f ≡ m → IsStored f → (key : Id) (before after : ℕ)
    → (r : Option Slot) → r ≡ slot_of_key m.state key
    → LooksAt r (entries_in f.weak.buckets f.weak.held (bucket_of f.weak.buckets key)) before after
    → SearchSteps (buckets_of m.numbers.blocks m.numbers.callers) m.state key before after
search-steps f m view stored key before after r is looks =
    let n : ℕ = f.weak.buckets in
    let beside : (n : ℕ) → entries_in n f.weak.held (bucket_of n key) ≡ entries_beside n (state_of f) key =
    λ n. as-many (id_at f.heap) f.table.rows n (bucket_of n key) (entries f.weak.held)
    ∙ ap (λ es. length (filter (λ e. among (id_at f.heap) f.table.rows n (bucket_of n key) e) es))
    (sym (entries_weak f.heap f.table.rows f.weak.held)) in
    let number : ℕ = buckets_of f.table.blocks (callers_of f) in
    let same : entries_in n f.weak.held (bucket_of n key)
    ≡ entries_in number f.weak.held (bucket_of number key) =
    ⊎_elim (λ wide. ap (λ b. entries_in b f.weak.held (bucket_of b key)) wide.buckets_are)
    (λ unused. no-entries f.weak.held unused.1 n number (bucket_of n key) (bucket_of number key))
    stored.weak_room in
    let many : entries_in n f.weak.held (bucket_of n key)
    ≡ entries_beside (buckets_of m.numbers.blocks m.numbers.callers) m.state key =
    same ∙ beside number
    ∙ ap (λ (v : Machine). entries_beside (buckets_of v.numbers.blocks v.numbers.callers) v.state key) view in
    subst (λ found. LooksAt (slot_of_key m.state key) found before after) many
    (subst (λ o. LooksAt o (entries_in n f.weak.held (bucket_of n key)) before after) is looks)
