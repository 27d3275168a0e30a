-- A table after one row changed: what its users see, and what it keeps.
use Rattle.hd_seg.proofs.Basics.{Addr, FinMap, Handle, IsSeg, Kind, None, ROWS, Some, Table, Uses, Vectors, ap, arith, cases_eq, cases_lt, cond, empty_of_len, false≢true, fits, get, get-empty, handles_of, has_handles, inl, inr, insert, is_some, len, len-insert, len-remove, length, mapped, nat_cmp, nat_cmp_total, remove, row_by, row_in, same_Some, subst, sym, table_in, true, with_row, without_row, ℕ, ◌*◌, ◌+◌, ◌-◌, ◌/◌, ◌<◌, ◌∙◌, ◌≡◌, ◌≢◌, ◌≤◌}
use Rattle.hd_seg.proofs.{FunctionMaps.mapped-insert, FunctionMaps.mapped-remove, ChainLinks.none_is_some, ChainLinks.some_of}
use Rattle.hd_seg.proofs.RowVectors.{row_is, IsWrite}

one_of : {A : Type 0} (m : FinMap nat_cmp A) (k : ℕ) (x : A) → get m k ≡ Some x → 1 ≤ len m
one_of m k x is =
    elim (cases_lt 0 (len m)) [
      | inl some ↦ some
      | inr none ↦ absurd (none_is_some _ (ap (λ n. get n k) (empty_of_len m (omega arith))
          ∙ get-empty nat_cmp k) (some_of _ _ is))
    ]

module _ {u : Uses} {v w : Vectors} {live : ℕ} (inv : IsSeg u v live)
    {slot : ℕ} {k : Kind} (in_block : get u.table.uses (slot / ROWS) ≡ Some (handles_of k))
    (write : IsWrite u slot v w) where
  -- other rows stay
  pub row_other : (q : ℕ) → q ≢ slot → row_in u w q ≡ row_in u v q
  row_other q apart =
      λ i. row_by (get u.table.uses (q / ROWS)) (write.bit_other q apart i) (write.target_other q apart i)
      (write.extra_other q apart i)

  range : (1 ≤ slot / ROWS) × (slot / ROWS ≤ u.table.blocks)
  range = inv.table.uses (slot / ROWS) (some_of _ _ in_block)

  -- what the table keeps
  seg-after : (new_live : ℕ) → new_live ≡ len (mapped ROWS (ROWS * u.table.blocks) (row_in u w))
      → ((h : Handle Addr) → row_in u w slot ≡ Some h → fits h.kind h.extra ≡ true) → IsSeg u w new_live
  seg-after new_live counted fitting = record {
    table = inv.table;
    targets = omega (arith, write.targets, inv.targets);
    extras = omega (arith, write.extras, inv.extras);
    masks = omega (arith, write.masks, inv.masks);
    counted = counted;
    placed = λ q none.
        let apart : q ≢ slot =
        λ same. false≢true (sym none ∙ ap (λ n. has_handles (get u.table.uses (n / ROWS))) same
        ∙ ap has_handles in_block) in
        write.bit_other q apart ∙ inv.placed q none;
    fitting = λ q h is.
        elim (cases_eq q slot) [
          | inl same ↦ fitting h (ap (row_in u w) (sym same) ∙ is)
          | inr apart ↦ inv.fitting q h (sym (row_other q apart) ∙ is)
        ];
    paired = inv.paired;
  }

  abbrev rows : Vectors → FinMap nat_cmp (Handle Addr)
  rows x = mapped ROWS (ROWS * u.table.blocks) (row_in u x)

  -- a row is there afterwards
  module _ {h : Handle Addr} (now : row_in u w slot ≡ Some h) where
    rows-put : rows w ≡ insert (rows v) slot h
    rows-put = mapped-insert ROWS (ROWS * u.table.blocks) (row_in u v) (row_in u w) slot h
        (omega (arith, range.0)) (omega (arith, range.1)) now row_other

    pub view-put : {t : Table} → table_in u v ≡ t → table_in u w ≡ with_row t slot h
    view-put is = ap (λ m. let t : Table = record u.table { rows = m } in t) rows-put
        ∙ ap (λ s. with_row s slot h) is

    count-put : len (rows w) ≡ cond (is_some (row_in u v slot)) live (live + 1)
    count-put =
        ap len rows-put ∙ len-insert nat_cmp_total (rows v) slot h
        ∙ ap (λ o. cond (is_some o) (len (rows v)) (len (rows v) + 1)) (row_is inv slot)
        ∙ ap (λ n. cond (is_some (row_in u v slot)) n (n + 1)) (sym inv.counted)

    seg-put : fits h.kind h.extra ≡ true → (new_live : ℕ) → new_live ≡ len (rows w) → IsSeg u w new_live
    seg-put fitting new_live counted =
        seg-after new_live counted
        (λ g is. subst (λ (f : Handle Addr). fits f.kind f.extra ≡ true) (same_Some _ _ (sym now ∙ is))
        fitting)

    -- where there was none
    pub seg-new : row_in u v slot ≡ None → fits h.kind h.extra ≡ true → IsSeg u w (live + 1)
    seg-new none fitting = seg-put fitting (live + 1)
        (sym (count-put ∙ ap (λ o. cond (is_some o) live (live + 1)) none))

    -- where there was one
    pub seg-same : {g : Handle Addr} → row_in u v slot ≡ Some g → fits h.kind h.extra ≡ true → IsSeg u w live
    seg-same was fitting = seg-put fitting live
        (sym (count-put ∙ ap (λ o. cond (is_some o) live (live + 1)) was))

  -- no row is there afterwards
  module _ {g : Handle Addr} (was : row_in u v slot ≡ Some g) (none : row_in u w slot ≡ None) where
    rows-take : rows w ≡ remove (rows v) slot
    rows-take = mapped-remove ROWS (ROWS * u.table.blocks) (row_in u v) (row_in u w) slot none row_other

    pub view-take : {t : Table} → table_in u v ≡ t → table_in u w ≡ without_row t slot
    view-take is = ap (λ m. let t : Table = record u.table { rows = m } in t) rows-take
        ∙ ap (λ s. without_row s slot) is

    count-take : len (rows w) ≡ live - 1
    count-take =
        ap len rows-take ∙ len-remove nat_cmp_total (rows v) slot
        ∙ ap (λ o. cond (is_some o) (len (rows v) - 1) (len (rows v))) (row_is inv slot ∙ was)
        ∙ ap (λ n. n - 1) (sym inv.counted)

    pub seg-gone : IsSeg u w (live - 1)
    seg-gone = seg-after (live - 1) (sym count-take)
        (λ h is. absurd (none_is_some _ none (some_of _ _ is)))

-- a live row counts
module _ {u : Uses} {v : Vectors} {live : ℕ} (inv : IsSeg u v live) where
  pub some_live : (q : ℕ) (h : Handle Addr) → row_in u v q ≡ Some h → 1 ≤ live
  some_live q h was =
      let known = one_of (mapped ROWS (ROWS * u.table.blocks) (row_in u v)) q h (row_is inv q ∙ was) in
      omega (arith, inv.counted, known)

  -- a slot of a block in use is within each vector
  module _ (slot : ℕ) (k : Kind) (in_block : get u.table.uses (slot / ROWS) ≡ Some (handles_of k)) where
    block_range : (1 ≤ slot / ROWS) × (slot / ROWS ≤ u.table.blocks)
    block_range = inv.table.uses (slot / ROWS) (some_of _ _ in_block)

    pub slot_low : ROWS ≤ slot
    slot_low = omega (arith, block_range.0)

    pub slot_high : slot < ROWS * (u.table.blocks + 1)
    slot_high = omega (arith, block_range.1)

    pub slot_inside : slot < length v.targets
    slot_inside = omega (arith, slot_high, inv.targets)

    pub block_inside : slot / ROWS < length v.masks
    block_inside = omega (arith, block_range.1, inv.masks)
