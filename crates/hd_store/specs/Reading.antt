-- What is stored at addresses, read by identity: the objects of a heap, the rows of a table and the entries
-- of the weak table as the machine has them.
use Rattle.std.specs.Prelude.{ℕ, Option, unwrap_or, option_map, option_and_then, is_none, map, IsSome, IfSome}
use Rattle.std.specs.FinMap.{FinMap, get, entries, from_entries, retain_keys}
use Rattle.std.specs.Ordering.{nat_cmp}
use Rattle.hd_model.specs.{declared.data.Id.Id, declared.data.Addr.Addr}
use Rattle.hd_model.specs.State.{Object, Handle, WeakEntry, secondary_of, rename_object, rename_handle}
use Rattle.hd_model.specs.Heap.{Placed, Heap, region_generation, region_of, object_in, id_at}

-- the identity of each address that has an object
unfoldable pub names_of : Heap → FinMap nat_cmp Id
names_of h = from_entries (map (λ e. (e.0, e.1.id)) (entries h.objects))

-- an object at an address, with each address in its fields read as the identity there
abbrev pub read_object : Heap → ℕ → Placed → Object Id
read_object h a p = rename_object (id_at h) (object_in (region_generation h (region_of (record { 0 = a }))) p)

-- the objects of a heap by identity
unfoldable pub objects_by_id : Heap → FinMap nat_cmp (Object Id)
objects_by_id h = from_entries (map (λ e. (e.1.id.0, read_object h e.0 e.1)) (entries h.objects))

-- the rows of a table, with each address read as the identity there
unfoldable pub rows_by_id : Heap → FinMap nat_cmp (Handle Addr) → FinMap nat_cmp (Handle Id)
rows_by_id h rows = from_entries (map (λ e. (e.0, rename_handle (id_at h) e.1)) (entries rows))

-- the rows of slots that the weak table does not hold
abbrev pub unheld : FinMap nat_cmp (Handle Addr) → FinMap nat_cmp (Option Id) → FinMap nat_cmp (Handle Addr)
unheld rows held = retain_keys rows (λ slot. is_none (get held slot))

-- the entry with a key whose value is the secondary of a row, by identity
abbrev pub entry_named : (Addr → Id) → Option (Handle Addr) → Option Id → Option (WeakEntry Id)
entry_named name row key =
    let value = option_and_then (λ (r : Handle Addr). secondary_of r.extra) row in
    option_map (λ k. record { key = k; value = option_map name value }) key

-- the slots that the weak table holds, each with its entry or idle
unfoldable pub weak_by_id : Heap → FinMap nat_cmp (Handle Addr) → FinMap nat_cmp (Option Id)
    → FinMap nat_cmp (Option (WeakEntry Id))
weak_by_id h rows held =
    from_entries (map (λ e. (e.0, entry_named (id_at h) (get rows e.0) e.1)) (entries held))

-- the identity at an address, by the identities of all addresses
abbrev pub name_in : FinMap nat_cmp Id → Addr → Id
name_in names a = unwrap_or (get names a.0) (record { 0 = 0 })

-- the identity at an address, or null
abbrev pub named_in : FinMap nat_cmp Id → Option Addr → Option Id
named_in names o = option_map (name_in names) o

-- the address of an object, or null
abbrev pub IsNamed : FinMap nat_cmp Id → Option Addr → Type 0
IsNamed names o = IfSome o (λ a. IsSome (get names a.0))
