-- What the weak table of a store has in a slot that it holds, as a call of the table returns the row.
use Rattle.hd_store.proofs.StoreWords.{Addr, Id, IsSome, IsStored, IsTied, Machine, None, Option, Parts, Row, Slot, Some, ap, entry_named, entry_value, get, id_at, machine_of, name_in, option_and_then, option_map, same_Some, secondary_of, some_value, subst, sym, value_at, ◌∙◌, ◌≡◌}
use Rattle.hd_seg.specs.{Row.row_of}
use Rattle.hd_store.proofs.{IdentityReadings.name-is, HeapCallReadings.objects_named}
use Rattle.hd_store.proofs.EntrySearch.{held-some, weak-read}

module _ (f : Parts) (m : Machine) (view : machine_of f ≡ m) (stored : IsStored f) (slot : Slot)
    (live : IsSome (get m.state.weak slot.0)) (r : Row)
    (is : Some r ≡ option_map row_of (get f.table.rows slot.0)) where
  held-key : (key : Option Id) × (get f.weak.held slot.0 ≡ Some key)
  held-key = some_value (get f.weak.held slot.0) (held-some f m view stored slot.0 live)

  tied : IsTied f.heap f.table.rows slot.0 held-key.0
  tied = stored.tied slot.0 held-key.0 held-key.1

  target-is : r.target ≡ tied.target
  target-is = ap (λ (x : Row). x.target) (same_Some r _ (is ∙ ap (option_map row_of) tied.row))

  key-is : held-key.0 ≡ option_map (id_at f.heap) r.target
  key-is = sym tied.key_is ∙ ap (option_map (id_at f.heap)) (sym target-is)

  entry-is : get m.state.weak slot.0
      ≡ Some (entry_named (id_at f.heap) (get f.table.rows slot.0) (option_map (id_at f.heap) r.target))
  entry-is =
      weak-read f m view slot.0
      ∙ ap (option_map (entry_named (id_at f.heap) (get f.table.rows slot.0))) held-key.1
      ∙ ap (λ k. Some (entry_named (id_at f.heap) (get f.table.rows slot.0) k)) key-is

  -- an idle slot
  pub idle-read : r.target ≡ None → get m.state.weak slot.0 ≡ Some None
  idle-read none = entry-is
      ∙ ap (λ o. Some (entry_named (id_at f.heap) (get f.table.rows slot.0) (option_map (id_at f.heap) o))) none

  module _ (key : Addr) (some : r.target ≡ Some key) where
    abbrev secondary_read : Option Id
    secondary_read =
        option_map (id_at f.heap) (option_and_then (λ h. secondary_of h.extra) (get f.table.rows slot.0))

    keyed : get m.state.weak slot.0
        ≡ Some (Some (record { key = id_at f.heap key; value = secondary_read }))
    keyed = entry-is
        ∙ ap (λ o. Some (entry_named (id_at f.heap) (get f.table.rows slot.0) (option_map (id_at f.heap) o))) some

    key-name : name_in m.names key ≡ id_at f.heap key
    key-name = ap (λ (n : Machine). name_in n.names key) (sym view) ∙ name-is f.heap key

    value-is : value_at m.state slot ≡ secondary_read
    value-is = ap (option_and_then entry_value) keyed

    -- an entry: its key and its value, as other calls of the store return them
    pub entry-read : (k : Id) (v : Option Id) → k ≡ name_in m.names key → v ≡ value_at m.state slot
        → get m.state.weak slot.0 ≡ Some (Some (record { key = k; value = v }))
    entry-read k v k-is v-is =
        keyed ∙ (λ i. Some (Some (record { key = sym (k-is ∙ key-name) i; value = sym (v-is ∙ value-is) i })))

    pub key-known : IsSome (get m.names key.0)
    key-known =
        subst (λ (n : Machine). IsSome (get n.names key.0)) view
        (objects_named f.heap (Some key) (λ y same. stored.whole.targets slot.0 _ y tied.row
        (sym target-is ∙ some ∙ same)))
