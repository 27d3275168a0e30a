-- How the weak table of a store reads by identity, and the handles beside it.
use Rattle.hd_store.proofs.StoreWords.{Addr, Bool, Dependent, FinMap, Handle, Heap, Id, IsTied, None, Option, Parts, Some, ap, cond, entry_named, false, get, get-retain_keys, get_beside, get_inserted, get_left, id_at, insert, is_none, nat_cmp, nat_cmp-IsAntisymmetric, option_map, option_or, refl, remove, rename_handle, row_of, rows_by_id, secondary, secondary_of, state_of, sym, true, unheld, weak_by_id, weak_handle, ℕ, ◌∙◌, ◌≡◌, insert_cases, remove_cases, get_removed}
use Rattle.hd_store.proofs.{EntryMaps.same_numbers, EntryMaps.get-mapped, IdentityReadings.no_some, IdentityReadings.rows-get}
use Rattle.hd_model.proofs.SceneReadings.{option_agrees}

kept_mapped : {A B : Type 0} (g : A → B) (b : Bool) (o : Option A)
    → option_map g (cond b o None) ≡ cond b (option_map g o) None
kept_mapped g true o = refl
kept_mapped g false o = refl

pub none_kept : {A : Type 0} (b : Bool) (o : Option A) → o ≡ None → cond b o None ≡ None
none_kept true o is = is
none_kept false o is = refl

module _ (rows : FinMap nat_cmp (Handle Addr)) (held : FinMap nat_cmp (Option Id)) where
  -- a slot that the weak table holds has no handle
  pub unheld-get : (slot : ℕ)
      → get (unheld rows held) slot ≡ cond (is_none (get held slot)) (get rows slot) None
  unheld-get slot =
      get-retain_keys rows (λ s. is_none (get held s)) slot
      (λ s same. ap (λ x. is_none (get held x)) (sym (nat_cmp-IsAntisymmetric slot s same)))

  pub unheld-some : (slot : ℕ) (row : Handle Addr) → get (unheld rows held) slot ≡ Some row
      → get rows slot ≡ Some row
  unheld-some slot row is = by (is_none (get held slot)) (sym (unheld-get slot) ∙ is)
    where
      by : (b : Bool) → cond b (get rows slot) None ≡ Some row → get rows slot ≡ Some row
      by true e = e
      by false e = absurd (no_some row (sym e))

module _ (h : Heap) (rows : FinMap nat_cmp (Handle Addr)) (held : FinMap nat_cmp (Option Id)) (slot : ℕ) where
  pub handles-get : get (rows_by_id h (unheld rows held)) slot
      ≡ cond (is_none (get held slot)) (option_map (rename_handle (id_at h)) (get rows slot)) None
  handles-get =
      rows-get h (unheld rows held) slot
      ∙ ap (option_map (rename_handle (id_at h))) (unheld-get rows held slot)
      ∙ kept_mapped (rename_handle (id_at h)) (is_none (get held slot)) (get rows slot)

  pub weak-get : get (weak_by_id h rows held) slot ≡ option_map (entry_named (id_at h) (get rows slot))
      (get held slot)
  unfolding weak_by_id
  weak-get = get-mapped (λ s. entry_named (id_at h) (get rows s)) held slot

  pub handle-get : get held slot ≡ None
      → get (rows_by_id h (unheld rows held)) slot ≡ option_map (rename_handle (id_at h)) (get rows slot)
  handle-get free = handles-get
      ∙ ap (λ o. cond (is_none o) (option_map (rename_handle (id_at h)) (get rows slot)) None) free

  -- each handle by identity is the reading of a row
  pub handle-row : (x : Handle Id) → get (rows_by_id h (unheld rows held)) slot ≡ Some x
      → option_map (rename_handle (id_at h)) (get rows slot) ≡ Some x
  handle-row x is = by (is_none (get held slot)) (sym handles-get ∙ is)
    where
      by : (b : Bool) → cond b (option_map (rename_handle (id_at h)) (get rows slot)) None ≡ Some x
          → option_map (rename_handle (id_at h)) (get rows slot) ≡ Some x
      by true e = e
      by false e = absurd (no_some x (sym e))

-- a row that is put where the weak table holds no slot, or taken
pub unheld-put : (rows : FinMap nat_cmp (Handle Addr)) (held : FinMap nat_cmp (Option Id)) (slot : ℕ)
    (row : Handle Addr) → get held slot ≡ None
    → unheld (insert rows slot row) held ≡ insert (unheld rows held) slot row
unheld-put rows held slot row free =
    let after = insert (unheld rows held) slot row in
    same_numbers _ _ (λ s. unheld-get (insert rows slot row) held s
    ∙ insert_cases rows slot (λ j o. cond (is_none (get held j)) o None ≡ get after j) row s
    (ap (λ o. cond (is_none o) (Some row) None) free ∙ sym (get_inserted (unheld rows held) slot row))
    (λ apart. sym (unheld-get rows held s) ∙ sym (get_beside (unheld rows held) slot row s apart)))

pub unheld-end : (rows : FinMap nat_cmp (Handle Addr)) (held : FinMap nat_cmp (Option Id)) (slot : ℕ)
    → unheld (remove rows slot) held ≡ remove (unheld rows held) slot
unheld-end rows held slot =
    let after = remove (unheld rows held) slot in
    same_numbers _ _ (λ s. unheld-get (remove rows slot) held s
    ∙ remove_cases rows slot (λ j o. cond (is_none (get held j)) o None ≡ get after j) s
    (none_kept (is_none (get held slot)) None refl ∙ sym (get_removed (unheld rows held) slot))
    (λ apart. sym (unheld-get rows held s) ∙ sym (get_left (unheld rows held) slot s apart)))

-- other rows, the same in the slots that the weak table holds, have the same entries
pub weak-same : (h : Heap) (old new : FinMap nat_cmp (Handle Addr)) (held : FinMap nat_cmp (Option Id))
    → ((slot : ℕ) (key : Option Id) → get held slot ≡ Some key → get new slot ≡ get old slot)
    → weak_by_id h new held ≡ weak_by_id h old held
weak-same h old new held same =
    same_numbers (weak_by_id h new held) (weak_by_id h old held)
    (λ slot. weak-get h new held slot ∙ by slot (get held slot) refl ∙ sym (weak-get h old held slot))
  where
    by : (slot : ℕ) (o : Option (Option Id)) → get held slot ≡ o
        → option_map (entry_named (id_at h) (get new slot)) (get held slot)
        ≡ option_map (entry_named (id_at h) (get old slot)) (get held slot)
    by slot None is =
        ap (option_map (entry_named (id_at h) (get new slot))) is
        ∙ sym (ap (option_map (entry_named (id_at h) (get old slot))) is)
    by slot (Some key) is =
        ap (λ o. option_map (entry_named (id_at h) o) (get held slot)) (same slot key is)

-- so does a row that is put or taken where it holds none
pub weak-put : (h : Heap) (rows : FinMap nat_cmp (Handle Addr)) (held : FinMap nat_cmp (Option Id)) (slot : ℕ)
    (row : Handle Addr) → get held slot ≡ None
    → weak_by_id h (insert rows slot row) held ≡ weak_by_id h rows held
weak-put h rows held slot row free =
    weak-same h rows (insert rows slot row) held
    (λ s key is. get_beside rows slot row s
    (λ same. no_some key (sym is ∙ ap (get held) same ∙ free)))

pub weak-end : (h : Heap) (rows : FinMap nat_cmp (Handle Addr)) (held : FinMap nat_cmp (Option Id)) (slot : ℕ)
    → get held slot ≡ None → weak_by_id h (remove rows slot) held ≡ weak_by_id h rows held
weak-end h rows held slot free =
    weak-same h rows (remove rows slot) held
    (λ s key is. get_left rows slot s (λ same. no_some key (sym is ∙ ap (get held) same ∙ free)))

-- the row of a slot in the machine's state, whether it has a handle or is the weak table's, is that of the
-- table by identity
module _ (f : Parts)
    (paired : (slot : ℕ) (row : Handle Addr) → get f.table.rows slot ≡ Some row → row.target ≡ None
    → secondary_of row.extra ≡ None)
    (tied : (slot : ℕ) (key : Option Id) → get f.weak.held slot ≡ Some key
    → IsTied f.heap f.table.rows slot key) where
  abbrev named_row : ℕ → Option (Handle Id)
  named_row slot = option_map (rename_handle (id_at f.heap)) (get f.table.rows slot)

  abbrev by_key : ℕ → Option (Option Id) → Option (Handle Id)
  by_key slot o = option_or (cond (is_none o) (named_row slot) None)
      (option_map weak_handle (option_map (entry_named (id_at f.heap) (get f.table.rows slot)) o))

  or_none : {A : Type 0} (o : Option A) → option_or o None ≡ o
  or_none None = refl
  or_none (Some x) = refl

  abbrev attaching : Option Id → Option Id → Option (Handle Id)
  attaching target value = Some (record { kind = Dependent; target = target; extra = secondary value })

  shown : (target value : Option Addr) → (target ≡ None → value ≡ None)
      → Some (weak_handle
      (option_map (λ (k : Id). record { key = k; value = option_map (id_at f.heap) value })
      (option_map (id_at f.heap) target)))
      ≡ attaching (option_map (id_at f.heap) target) (option_map (id_at f.heap) value)
  shown None value none = ap (λ v. attaching None (option_map (id_at f.heap) v)) (sym (none refl))
  shown (Some a) value none = refl

  tied_row : (slot : ℕ) (key : Option Id) → IsTied f.heap f.table.rows slot key
      → Some (weak_handle (entry_named (id_at f.heap) (get f.table.rows slot) key)) ≡ named_row slot
  tied_row slot key t =
      (λ i. Some (weak_handle (entry_named (id_at f.heap) (t.row i) (sym t.key_is i))))
      ∙ shown t.target t.value (paired slot _ t.row)
      ∙ ap (option_map (rename_handle (id_at f.heap))) (sym t.row)

  pub row-reads : (slot : ℕ) → row_of (state_of f) slot ≡ named_row slot
  row-reads slot =
      (λ i. option_or (handles-get f.heap f.table.rows f.weak.held slot i)
      (option_map weak_handle (weak-get f.heap f.table.rows f.weak.held slot i)))
      ∙ by (get f.weak.held slot) refl
    where
      by : (o : Option (Option Id)) → get f.weak.held slot ≡ o
          → by_key slot (get f.weak.held slot) ≡ named_row slot
      by None is = ap (by_key slot) is ∙ or_none (named_row slot)
      by (Some key) is = ap (by_key slot) is ∙ tied_row slot key (tied slot key is)

-- what ties a key to a row stays where the row does and the identities do
pub tied-agrees : (f g : Parts) (slot : ℕ) (key : Option Id) → (t : IsTied f.heap f.table.rows slot key)
    → get g.table.rows slot ≡ get f.table.rows slot
    → ((x : Addr) → t.target ≡ Some x → id_at g.heap x ≡ id_at f.heap x) → IsTied g.heap g.table.rows slot key
tied-agrees f g slot key t row name = record {
  target = t.target;
  value = t.value;
  row = row ∙ t.row;
  key_is = option_agrees (id_at g.heap) (id_at f.heap) t.target name ∙ t.key_is;
}
