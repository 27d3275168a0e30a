-- The handle in a slot of a store, as commands find it.
use Rattle.hd_store.proofs.StoreWords.{Addr, Handle, HasHandles, Id, IfSome, IsNamed, IsSome, IsStored, IsTable, Kind, Machine, MayBeStored, None, Option, Parts, Row, Slot, Some, age_of, ap, block_of, false≢true, generation_at, get, handle_at, handle_of, id_at, is_object, is_some, kind_in_use, live_at, machine_of, named_in, object_at, object_named, option_map, refl, rename_handle, same_Some, secondary_of, subst, sym, true, use_of, ◌/◌, ◌∙◌, ◌≡◌, ◌≤◌, name_in, seen_by}
use Rattle.hd_commands.specs.Handles.{IsWithin}
use Rattle.hd_model.specs.declared.limits.TheConstants.{ROWS}
use Rattle.hd_seg.specs.Row.{row_of}
use Rattle.hd_seg.proofs.RowRewrite.{extra_again}
use Rattle.hd_store.proofs.{IdentityReadings.no_some, IdentityReadings.names-are, HeapCallReadings.objects_named, HeapCallReadings.generation-is, StoreRows.live-is, StoreRows.row-read}

pub same_handle : (h : Handle Addr) → handle_of h.kind (row_of h) ≡ h
same_handle h = λ i. record { kind = h.kind; target = h.target; extra = extra_again h.extra i }

pub no_row : (o : Option (Handle Addr)) → option_map row_of o ≡ None → o ≡ None
no_row None is = refl
no_row (Some h) is = absurd (no_some (row_of h) is)

pub has-row : (o : Option (Handle Addr)) (row : Row) → Some row ≡ option_map row_of o → IsSome o
has-row None row is = absurd (no_some row is)
has-row (Some h) row is = refl

-- the row and the kind of a slot that has a row
module _ (f : Parts) (m : Machine) (view : machine_of f ≡ m) (slot : Slot)
    (there : IsSome (get f.table.rows slot.0)) where
  row_is : get f.table.rows slot.0 ≡ Some (live_at f.table slot.0)
  row_is = live-is f.table slot.0 there

  pub row-there : Some (row_of (live_at f.table slot.0)) ≡ option_map row_of (get f.table.rows slot.0)
  row-there = ap (option_map row_of) (sym row_is)

  pub kind-known : IsTable f.table
      → Some (live_at f.table slot.0).kind ≡ kind_in_use (use_of m.state (block_of slot))
  kind-known table =
      ap kind_in_use (sym (table.rows slot.0 (live_at f.table slot.0) row_is).block)
      ∙ ap (λ (n : Machine). kind_in_use (use_of n.state (block_of slot))) view

-- the slot of a handle is one of the table's
pub slot-within : (m : Machine) → HasHandles m.numbers m.state → (slot : Slot)
    → IsSome (handle_at m.state slot) → IsWithin (seen_by m) slot
slot-within m handles slot live = by (handle_at m.state slot) refl live
  where
    by : (o : Option (Handle Id)) → handle_at m.state slot ≡ o → IsSome o → IsWithin (seen_by m) slot
    by None is none = absurd (false≢true none)
    by (Some h) is some = handles.blocks (slot.0 / ROWS) (ap is_some (handles.kinds slot.0 h is))

-- the handle of a row that was found
pub record FoundRow (f : Parts) (slot : Slot) (row : Row) : Type 0 where
  pub handle : Handle Addr
  pub is_stored : get f.table.rows slot.0 ≡ Some handle
  pub row_is : row ≡ row_of handle

pub found : (f : Parts) (slot : Slot) (row : Row) → Some row ≡ option_map row_of (get f.table.rows slot.0)
    → FoundRow f slot row
found f slot row is = by (get f.table.rows slot.0) refl
  where
    by : (o : Option (Handle Addr)) → get f.table.rows slot.0 ≡ o → FoundRow f slot row
    by None e = absurd (no_some row (is ∙ ap (option_map row_of) e))
    by (Some h) e =
        record {
          handle = h;
          is_stored = e;
          row_is = same_Some row (row_of h) (is ∙ ap (option_map row_of) e);
        }

module _ (f : Parts) (m : Machine) (view : machine_of f ≡ m) (stored : IsStored f) (table : IsTable f.table)
    (slot : Slot) (free : get f.weak.held slot.0 ≡ None) (row : Row)
    (is : Some row ≡ option_map row_of (get f.table.rows slot.0)) where
  at : FoundRow f slot row
  at = found f slot row is

  kind_use : kind_in_use (use_of m.state (block_of slot)) ≡ Some at.handle.kind
  kind_use =
      ap (λ (n : Machine). kind_in_use (use_of n.state (block_of slot))) (sym view)
      ∙ ap kind_in_use (table.rows slot.0 at.handle at.is_stored).block

  stored_is : handle_at m.state slot ≡ Some (rename_handle (name_in m.names) at.handle)
  stored_is =
      row-read f m view slot free ∙ ap (option_map (rename_handle (id_at f.heap))) at.is_stored
      ∙ ap (λ g. Some (rename_handle g at.handle)) (sym (names-are f.heap))
      ∙ ap (λ (n : Machine). Some (rename_handle (name_in n.names) at.handle)) view

  named : (o : Option Addr) → ((x : Addr) → o ≡ Some x → is_object (object_at f.heap) x ≡ true)
      → IsNamed m.names o
  named o each = subst (λ (n : Machine). IsNamed n.names o) view (objects_named f.heap o each)

  aged : (o : Option Addr) → IsNamed m.names o
      → ((x : Addr) → o ≡ Some x → age_of f.ages slot.0 ≤ generation_at (object_at f.heap) x)
      → IfSome o (λ a. age_of m.ages slot.0 ≤ (object_named m a).generation)
  aged None there each = tt
  aged (Some a) there each =
      subst (λ ages. age_of ages slot.0 ≤ (object_named m a).generation) (ap (λ (n : Machine). n.ages) view)
      (subst (λ g. age_of f.ages slot.0 ≤ g) (generation-is f m view stored a there) (each a refl))

  stored_may : MayBeStored (seen_by m) slot at.handle
  stored_may =
      let h = at.handle in
      let target : IsNamed m.names h.target =
      named h.target (λ x e. stored.whole.targets slot.0 h x at.is_stored e) in
      let second : IsNamed m.names (secondary_of h.extra) =
      named (secondary_of h.extra) (λ x e. stored.whole.secondaries slot.0 h x at.is_stored e) in
      record {
        fits = (table.rows slot.0 h at.is_stored).fits;
        target = target;
        secondary = second;
        paired = stored.whole.paired slot.0 h at.is_stored;
        target_age = aged h.target target (λ x e. stored.ages.targets slot.0 h x at.is_stored e);
        secondary_age =
            aged (secondary_of h.extra) second (λ x e. stored.ages.secondaries slot.0 h x at.is_stored e);
      }

  -- the handle that is made of the row and of that kind
  module _ (kind : Kind) (known : Some kind ≡ kind_in_use (use_of m.state (block_of slot))) (h : Handle Addr)
      (read : h ≡ handle_of kind row) where
    whole : at.handle ≡ h
    whole = sym (read ∙ (λ i. handle_of (same_Some kind at.handle.kind (known ∙ kind_use) i) (at.row_is i))
        ∙ same_handle at.handle)

    pub handle-is : handle_at m.state slot ≡ Some (rename_handle (name_in m.names) h)
    handle-is = stored_is ∙ ap (λ x. Some (rename_handle (name_in m.names) x)) whole

    pub handle-may : MayBeStored (seen_by m) slot h
    handle-may = subst (MayBeStored (seen_by m) slot) whole stored_may

  -- what it has for a target, whatever its kind
  pub target-is : option_map (λ (h : Handle Id). h.target) (handle_at m.state slot)
      ≡ Some (named_in m.names row.target)
  target-is = ap (option_map (λ (h : Handle Id). h.target)) stored_is
      ∙ ap (λ (r : Row). Some (named_in m.names r.target)) (sym at.row_is)

  pub target-named : IsNamed m.names row.target
  target-named = subst (λ (r : Row). IsNamed m.names r.target) (sym at.row_is) stored_may.target
