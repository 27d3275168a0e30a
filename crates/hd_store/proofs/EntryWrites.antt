-- An entry of the weak table that is put, or taken: what the machine sees, and that the store keeps what it
-- keeps.
use Rattle.hd_store.proofs.StoreWords.{Addr, Dependent, FinMap, Handle, Id, IsSome, IsStored, Machine, MayHaveEntry, None, Option, Parts, Slot, Some, T, Table, WeakEntry, WeakTable, age_of, ap, arith, cond, entry_at, entry_named, get, get_beside, get_inserted, id_at, insert, is_none, is_object, is_some, live_at, machine_of, name_in, nat_cmp, object_at, option_map, refl, rows_by_id, same_Some, state_of, subst, sym, true, unheld, weak_by_id, with_row, with_weak, ℕ, ◌∙◌, ◌≡◌, insert_cases, IsTied, callers_of, inl}
use Rattle.hd_store.specs.Inside.{IsWide}
use Rattle.hd_store.proofs.{EntryMaps.same_numbers, IdentityReadings.no_some, IdentityReadings.names-are, EntrySweep.attaching, EntrySweep.row-known, EntrySearch.held-some}
use Rattle.hd_store.proofs.EntryReadings.{none_kept, unheld-get, weak-get, tied-agrees}
use Rattle.hd_store.proofs.StoreRows.{IsStorable, AreTied, storable-put, stored-entries, object, held-live}

-- an entry row may be stored in a slot whose clump has age 0
pub may-attach : (f : Parts) (slot : ℕ) (target value : Option Addr) → age_of f.ages slot ≡ 0
    → ((x : Addr) → target ≡ Some x → is_object (object_at f.heap) x ≡ true)
    → ((x : Addr) → value ≡ Some x → is_object (object_at f.heap) x ≡ true)
    → (target ≡ None → value ≡ None) → IsStorable f slot (attaching target value)
may-attach f slot target value young known second paired = record {
  target = known;
  second = second;
  paired = paired;
  attaching = λ x e. refl;
  target_age = λ x e. omega (arith, young);
  second_age = λ x e. omega (arith, young);
}

-- a slot without a row has no handle
pub row-vacant : (rows : FinMap nat_cmp (Handle Addr)) (held : FinMap nat_cmp (Option Id)) (slot : ℕ)
    → get rows slot ≡ None → get (unheld rows held) slot ≡ None
row-vacant rows held slot none =
    unheld-get rows held slot ∙ none_kept (is_none (get held slot)) (get rows slot) none

-- the parts with such a table and weak table are those of a store, in which the slot of the weak table has
-- that
abbrev pub HasPut : Parts → Machine → Slot → Option (WeakEntry Id) → Table → WeakTable → Type 0
HasPut f m slot e t w = IsStored (record f { table = t; weak = w })
    × (machine_of (record f { table = t; weak = w })
    ≡ record m { state = with_weak m.state slot e; table = t })

module _ (f : Parts) (m : Machine) (view : machine_of f ≡ m) (stored : IsStored f) (slot : Slot)
    (target value : Option Addr) (key : Option Id) (key_is : option_map (id_at f.heap) target ≡ key)
    (vacant : get (unheld f.table.rows f.weak.held) slot.0 ≡ None)
    (may : IsStorable f slot.0 (attaching target value))
    (wide : IsWide f.table.blocks (callers_of f) f.weak) where
  abbrev row : Handle Addr
  row = attaching target value

  -- the parts with the row in the slot, and the key there in the weak table
  abbrev pub with_attached : Parts
  with_attached = record f {
    table = with_row f.table slot.0 row;
    weak = record f.weak { held = insert f.weak.held slot.0 key };
  }

  tied : AreTied with_attached
  tied s k =
      insert_cases f.weak.held slot.0 (λ j o. o ≡ Some k → IsTied f.heap (insert f.table.rows slot.0 row) j k)
      key s (λ is. record {
        target = target;
        value = value;
        row = get_inserted f.table.rows slot.0 row;
        key_is = key_is ∙ same_Some key k is;
      }) (λ apart is. tied-agrees f with_attached s k (stored.tied s k is)
      (get_beside f.table.rows slot.0 row s apart) (λ x e. refl))

  pub stored-attached : IsStored with_attached
  stored-attached =
      stored-entries f (with_row f.table slot.0 row) f.ages
      (record f.weak { held = insert f.weak.held slot.0 key })
      stored refl stored.uses refl (storable-put f slot.0 row stored may)
      (inl (record { blocks_are = wide.blocks_are; buckets_are = wide.buckets_are })) tied

  weak_attached : weak_by_id f.heap (insert f.table.rows slot.0 row) (insert f.weak.held slot.0 key)
      ≡ insert (weak_by_id f.heap f.table.rows f.weak.held) slot.0 (entry_named (id_at f.heap) (Some row) key)
  weak_attached =
      let held = insert f.weak.held slot.0 key in
      let old = weak_by_id f.heap f.table.rows f.weak.held in
      let entry = entry_named (id_at f.heap) (Some row) key in
      same_numbers _ _ (λ s. weak-get f.heap (insert f.table.rows slot.0 row) held s
      ∙ insert_cases f.table.rows slot.0
      (λ j o. option_map (entry_named (id_at f.heap) o) (get held j) ≡ get (insert old slot.0 entry) j) row s
      (ap (option_map (entry_named (id_at f.heap) (Some row))) (get_inserted f.weak.held slot.0 key)
      ∙ sym (get_inserted old slot.0 entry))
      (λ apart. ap (option_map (entry_named (id_at f.heap) (get f.table.rows s)))
      (get_beside f.weak.held slot.0 key s apart)
      ∙ sym (weak-get f.heap f.table.rows f.weak.held s) ∙ sym (get_beside old slot.0 entry s apart)))

  handles_kept : unheld (insert f.table.rows slot.0 row) (insert f.weak.held slot.0 key)
      ≡ unheld f.table.rows f.weak.held
  handles_kept =
      let rows = insert f.table.rows slot.0 row in
      let was = unheld f.table.rows f.weak.held in
      same_numbers _ _ (λ s. unheld-get rows (insert f.weak.held slot.0 key) s
      ∙ insert_cases f.weak.held slot.0 (λ j o. cond (is_none o) (get rows j) None ≡ get was j) key s (sym vacant)
      (λ apart. ap (λ o. cond (is_none (get f.weak.held s)) o None) (get_beside f.table.rows slot.0 row s apart)
      ∙ sym (unheld-get f.table.rows f.weak.held s)))

  pub machine-attached : machine_of with_attached
      ≡ record m {
        state = with_weak m.state slot (entry_named (id_at f.heap) (Some row) key);
        table = with_row f.table slot.0 row;
      }
  machine-attached =
      (λ i. record (machine_of f) {
        state = record (state_of f) { handles = rows_by_id f.heap (handles_kept i); weak = weak_attached i };
        table = with_row f.table slot.0 row;
      })
      ∙ ap (λ (n : Machine). record n {
        state = with_weak n.state slot (entry_named (id_at f.heap) (Some row) key);
        table = with_row f.table slot.0 row;
      }) view

  -- what the store has, and what the machine sees, once the row and the key are there
  pub attached : (t : Table) (w : WeakTable) (e : Option (WeakEntry Id)) → t ≡ with_row f.table slot.0 row
      → w ≡ record f.weak { held = insert f.weak.held slot.0 key }
      → entry_named (id_at f.heap) (Some row) key ≡ e → HasPut f m slot e t w
  attached t w e table weak entry =
      let same : with_attached ≡ record f { table = t; weak = w } =
      λ i. record f { table = sym table i; weak = sym weak i } in (
        subst IsStored same stored-attached,
        ap machine_of (sym same) ∙ machine-attached
            ∙ (λ i. record m { state = with_weak m.state slot (entry i); table = sym table i }),
      )

-- in a slot with neither key nor value
may-clear : (f : Parts) (slot : ℕ) → IsStorable f slot (attaching None None)
may-clear f slot = record {
  target = λ x e. absurd (no_some x (sym e));
  second = λ x e. absurd (no_some x (sym e));
  paired = λ e. refl;
  attaching = λ x e. refl;
  target_age = λ x e. absurd (no_some x (sym e));
  second_age = λ x e. absurd (no_some x (sym e));
}

module _ (f : Parts) (m : Machine) (view : machine_of f ≡ m) (stored : IsStored f) (slot : Slot)
    (wide : IsWide f.table.blocks (callers_of f) f.weak) where
  -- an entry of a key is put into a vacant slot
  pub put-entry : (key : Addr) (value : Option Addr) (id : Id) → MayHaveEntry m slot key value
      → id ≡ name_in m.names key → get (unheld f.table.rows f.weak.held) slot.0 ≡ None
      → (t : Table) (w : WeakTable) → t ≡ with_row f.table slot.0 (attaching (Some key) value)
      → w ≡ record f.weak { held = insert f.weak.held slot.0 (Some id) }
      → HasPut f m slot (Some (entry_at m.names key value)) t w
  put-entry key value id may is vacant t w table weak =
      let named : name_in m.names ≡ id_at f.heap =
      ap (λ (n : Machine). name_in n.names) (sym view) ∙ names-are f.heap in
      let same : id_at f.heap key ≡ id = sym (is ∙ ap (λ g. g key) named) in
      attached f m view stored slot (Some key) value (Some id) (ap Some same) vacant
      (may-attach f slot.0 (Some key) value (ap (λ (n : Machine). age_of n.ages slot.0) view ∙ may.young)
      (λ x e. object f m view stored (Some key) x may.known e)
      (λ x e. object f m view stored value x may.named e) (λ e. absurd (no_some key e)))
      wide t w (Some (entry_at m.names key value)) table weak
      (ap (λ x. Some (record { key = x; value = option_map (id_at f.heap) value })) (sym same)
      ∙ ap (λ g. Some (record { key = g key; value = option_map g value })) (sym named))

  -- the entry of a slot is taken out
  pub end-entry : get (unheld f.table.rows f.weak.held) slot.0 ≡ None
      → (t : Table) (w : WeakTable) → t ≡ with_row f.table slot.0 (attaching None None)
      → w ≡ record f.weak { held = insert f.weak.held slot.0 None } → HasPut f m slot None t w
  end-entry vacant t w table weak =
      attached f m view stored slot None None None refl vacant (may-clear f slot.0) wide t w None table weak
      refl

module _ (f : Parts) (m : Machine) (view : machine_of f ≡ m) (stored : IsStored f) (slot : Slot) where
  module _ (e : Option (WeakEntry Id)) (is : get m.state.weak slot.0 ≡ Some e) where
    held : IsSome (get f.weak.held slot.0)
    held = held-some f m view stored slot.0 (ap is_some is)

    -- a slot of the weak table has a row, of a dependent handle, and no handle by identity
    pub weak-live : IsSome (get f.table.rows slot.0)
    weak-live = held-live f stored slot.0 held

    pub weak-kind : (live_at f.table slot.0).kind ≡ Dependent
    weak-kind = by (get f.weak.held slot.0) refl
      where
        by : (o : Option (Option Id)) → get f.weak.held slot.0 ≡ o → (live_at f.table slot.0).kind ≡ Dependent
        by None none = absurd (subst T (sym (sym (ap is_some none) ∙ held)) tt)
        by (Some key) at = ap (λ (h : Handle Addr). h.kind)
            (row-known f.table slot.0 _ (stored.tied slot.0 key at).row)

    pub weak-vacant : get (unheld f.table.rows f.weak.held) slot.0 ≡ None
    weak-vacant = unheld-get f.table.rows f.weak.held slot.0 ∙ by (get f.weak.held slot.0) held
      where
        by : (o : Option (Option Id)) → IsSome o → cond (is_none o) (get f.table.rows slot.0) None ≡ None
        by None none = absurd (subst T (sym none) tt)
        by (Some key) there = refl
