-- Each call on one row, by the fields of a table.
use Rattle.hd_seg.proofs.Basics.{Addr, BlockUse, Extra, Handle, IsSeg, IsSome, Kind, None, Option, ROWS, Row, Some, Table, Uses, Vectors, ap, arith, bit_at, bit_or, bit_xor, block_kind_of, cond, extra_at, extra_data, extra_from, extra_index, extra_index_in, extra_of, false, fits, fits_in, flip_other, flip_same, get, get_or, get_or-set_other, get_or-set_same, handle_of, handles_of, inl, inr, is_paired, is_some, kind_in, length, length-set, live_at, live_bit, refl, row_in, set, set_other, set_same, subst, sym, table_in, target_at, true, true≢false, unwrap_or, with_extra, with_row, without_row, ℕ, ◌%◌, ◌*◌, ◌+◌, ◌-◌, ◌/◌, ◌<◌, ◌^◌, ◌∙◌, ◌≡◌, ◌≢◌, ◌≤◌}
use Rattle.hd_seg.proofs.{FunctionMaps.len-mapped_le, ChainLinks.none_is_some, RowRewrite.nothing_fits}
use Rattle.hd_seg.proofs.RowVectors.{HasParts, IsWrite, bit_is, bit_other, bit_same, cases_option, extra-from-of, extra_other, extra_same, length-with, parts, row-clear, row-set, row_is}
use Rattle.hd_seg.proofs.RowChange.{block_inside, seg-gone, seg-new, seg-same, slot_high, slot_inside, slot_low, some_live as live_counts, view-put, view-take}
use Rattle.hd_model.specs.declared.data.Kind.TheVariants as kind
use Rattle.hd_model.specs.State as state
use Rattle.hd_model.specs.declared.handle.Extra.TheVariants.{Nothing}
use Rattle.hd_seg.specs.declared.row.BlockKind.{BlockKind}
use Rattle.hd_seg.specs.declared.row.BlockKind.TheVariants as block

-- ---- what fits

pub fits_handles : {N : Type 0} (o : Option BlockUse) (e : state.Extra N) → fits_in o e ≡ true
    → (o ≡ Some (handles_of (kind_in o))) × (fits (kind_in o) e ≡ true)
fits_handles None e is = absurd (true≢false (sym is))
fits_handles (Some (handles_of k)) e is = (refl, is)
fits_handles (Some extra_data) e is = absurd (true≢false (sym is))

module _ {u : Uses} {v : Vectors} {live : ℕ} (inv : IsSeg u v live)
    (slot : ℕ) {t : Table} (view_is : table_in u v ≡ t) where
  pub row_seen : get t.rows slot ≡ row_in u v slot
  row_seen = ap (λ (s : Table). get s.rows slot) (sym view_is) ∙ row_is inv slot

  -- the calls on a slot that is not live, in a block of handles
  module _ (vacant : get t.rows slot ≡ None) (k : Kind)
      (in_block : get t.uses (slot / ROWS) ≡ Some (handles_of k)) where
    put_block : get u.table.uses (slot / ROWS) ≡ Some (handles_of k)
    put_block = ap (λ (s : Table). get s.uses (slot / ROWS)) view_is ∙ in_block

    pub put_low : ROWS ≤ slot
    put_low = slot_low inv slot k put_block

    pub put_high : slot < ROWS * (u.table.blocks + 1)
    put_high = slot_high inv slot k put_block

    pub put_slot : slot < length v.targets
    put_slot = slot_inside inv slot k put_block

    pub put_mask : slot / ROWS < length v.masks
    put_mask = block_inside inv slot k put_block

    pub put_live : live + 1 < 2 ^ 32
    put_live = omega (
      arith,
      inv.counted,
      len-mapped_le ROWS (ROWS * u.table.blocks) (row_in u v),
      inv.table.limit,
    )

    -- the row is put
    module _ (row : Row) (fitting : fits k (extra_of row.extra) ≡ true) (m b : ℕ)
        (m_is : m ≡ get_or v.masks (slot / ROWS) 0) (b_is : b ≡ 2 ^ (slot % ROWS)) where
      abbrev pub put : Vectors
      put = record {
        targets = set v.targets slot row.target;
        extras = with_extra v.extras (extra_index u slot) row.extra;
        masks = set v.masks (slot / ROWS) (bit_or m b);
      }

      put_others : (i : ℕ) → i ≢ slot % ROWS
          → bit_at (bit_or m b) i ≡ bit_at (get_or v.masks (slot / ROWS) 0) i
      put_others i apart = ap (λ c. bit_at (bit_or m c) i) b_is ∙ set_other m (slot % ROWS) i apart
          ∙ ap (λ n. bit_at n i) m_is

      put_write : IsWrite u slot v put
      put_write = record {
        targets = length-set v.targets slot row.target;
        extras = length-with v.extras row.extra (extra_index u slot);
        masks = length-set v.masks (slot / ROWS) (bit_or m b);
        bit_other = bit_other v.masks slot (bit_or m b) put_mask put_others;
        target_other = λ q apart. get_or-set_other v.targets slot q row.target None apart;
        extra_other = extra_other inv.paired slot v.extras row.extra;
      }

      put_now : row_in u put slot ≡ Some (handle_of k row)
      put_now =
          row-set _ k _ _ _ put_block
          (bit_same v.masks slot (bit_or m b) put_mask put_others
          ∙ ap (λ c. bit_at (bit_or m c) (slot % ROWS)) b_is ∙ set_same m (slot % ROWS))
          ∙ (λ i. Some (record {
            kind = k;
            target = get_or-set_same v.targets slot row.target None put_slot i;
            extra = extra_same inv.paired slot v.extras row.extra k put_block inv.extras fitting i;
          }))

      pub put-view : table_in u put ≡ with_row t slot (handle_of k row)
      put-view = view-put inv put_block put_write put_now view_is

      pub put-seg : IsSeg u put (live + 1)
      put-seg = seg-new inv put_block put_write put_now (sym row_seen ∙ vacant) fitting

    -- a row without an extra is put
    module _ (single : is_paired k ≡ false) (target : Option Addr) (m b : ℕ)
        (m_is : m ≡ get_or v.masks (slot / ROWS) 0) (b_is : b ≡ 2 ^ (slot % ROWS)) where
      abbrev plain : Row
      plain = record { target = target; extra = Nothing }

      abbrev pub put_plain : Vectors
      put_plain = record {
        targets = set v.targets slot target;
        extras = v.extras;
        masks = set v.masks (slot / ROWS) (bit_or m b);
      }

      fits_nothing : fits k (extra_of plain.extra) ≡ true
      fits_nothing = nothing_fits k single

      no_data : get u.extras (slot / ROWS) ≡ None
      no_data =
          elim (cases_option (get u.extras (slot / ROWS))) [
            | inl none ↦ none
            | inr some ↦ absurd (true≢false (sym (ap is_some some.1)
                ∙ inv.paired.paired (slot / ROWS) k put_block ∙ single))
          ]

      same_vectors : put plain fits_nothing m b m_is b_is ≡ put_plain
      same_vectors = λ i. record put_plain {
        extras = ap (λ o. with_extra v.extras (extra_index_in o (slot % ROWS)) Nothing) no_data i;
      }

      pub plain-view : table_in u put_plain
          ≡ with_row t slot (record { kind = k; target = target; extra = state.nothing })
      plain-view = sym (ap (table_in u) same_vectors) ∙ put-view plain fits_nothing m b m_is b_is

      pub plain-seg : IsSeg u put_plain (live + 1)
      plain-seg = subst (λ w. IsSeg u w (live + 1)) same_vectors (put-seg plain fits_nothing m b m_is b_is)

  -- the calls on a live row
  module _ (there : IsSome (get t.rows slot)) where
    abbrev pub h : Handle Addr
    h = live_at t slot

    pub live_row : row_in u v slot ≡ Some h
    live_row =
        elim (cases_option (get t.rows slot)) [
          | inl none ↦ absurd (none_is_some _ none there)
          | inr some ↦ sym row_seen ∙ some.1
              ∙ ap Some (sym (ap (λ o. unwrap_or o
              (record { kind = kind.Short; target = None; extra = state.nothing })) some.1))
        ]

    its_parts : HasParts (get u.table.uses (slot / ROWS)) (target_at v.targets slot)
        (extra_at v.extras (extra_index u slot)) h
    its_parts = parts _ (live_bit v.masks slot) _ _ h live_row

    pub its_block : get u.table.uses (slot / ROWS) ≡ Some (handles_of h.kind)
    its_block = its_parts.use_is

    bit_now : live_bit v.masks slot ≡ 1
    bit_now = bit_is inv slot ∙ ap (λ o. let n : ℕ = cond (is_some o) 1 0 in n) live_row

    pub live_slot : slot < length v.targets
    live_slot = slot_inside inv slot h.kind its_block

    pub live_mask : slot / ROWS < length v.masks
    live_mask = block_inside inv slot h.kind its_block

    pub live_low : ROWS ≤ slot
    live_low = slot_low inv slot h.kind its_block

    pub live_high : slot < ROWS * (u.table.blocks + 1)
    live_high = slot_high inv slot h.kind its_block

    -- its kind, its target and its extra are read
    pub kind_now : (b : BlockKind) → b ≡ block_kind_of (get u.table.uses (slot / ROWS)) → b ≡ block.Rows h.kind
    kind_now b is = is ∙ ap block_kind_of its_block

    pub target_now : target_at v.targets slot ≡ h.target
    target_now = its_parts.target_is

    pub extra_now : extra_at v.extras (extra_index u slot) ≡ extra_from h.extra
    extra_now =
        sym (extra-from-of (extra_at v.extras (extra_index u slot))) ∙ ap extra_from its_parts.extra_is

    -- another target
    module _ (target : Option Addr) where
      abbrev pub aimed : Vectors
      aimed = record v { targets = set v.targets slot target }

      aim_write : IsWrite u slot v aimed
      aim_write = record {
        targets = length-set v.targets slot target;
        extras = refl;
        masks = refl;
        bit_other = λ q apart. refl;
        target_other = λ q apart. get_or-set_other v.targets slot q target None apart;
        extra_other = λ q apart. refl;
      }

      aim_now : row_in u aimed slot ≡ Some (record h { target = target })
      aim_now =
          row-set _ h.kind _ _ _ its_block bit_now
          ∙ (λ i. Some (record {
            kind = h.kind;
            target = get_or-set_same v.targets slot target None live_slot i;
            extra = its_parts.extra_is i;
          }))

      pub aim-view : table_in u aimed ≡ with_row t slot (record h { target = target })
      aim-view = view-put inv its_block aim_write aim_now view_is

      pub aim-seg : IsSeg u aimed live
      aim-seg = seg-same inv its_block aim_write aim_now live_row (inv.fitting slot h live_row)

    -- another extra
    module _ (e : Extra Addr) (fitting : fits h.kind (extra_of e) ≡ true) where
      abbrev pub eked : Vectors
      eked = record v { extras = with_extra v.extras (extra_index u slot) e }

      eke_write : IsWrite u slot v eked
      eke_write = record {
        targets = refl;
        extras = length-with v.extras e (extra_index u slot);
        masks = refl;
        bit_other = λ q apart. refl;
        target_other = λ q apart. refl;
        extra_other = extra_other inv.paired slot v.extras e;
      }

      eke_now : row_in u eked slot ≡ Some (record h { extra = extra_of e })
      eke_now =
          row-set _ h.kind _ _ _ its_block bit_now
          ∙ (λ i. Some (record {
            kind = h.kind;
            target = its_parts.target_is i;
            extra = extra_same inv.paired slot v.extras e h.kind its_block inv.extras fitting i;
          }))

      pub eke-view : table_in u eked ≡ with_row t slot (record h { extra = extra_of e })
      eke-view = view-put inv its_block eke_write eke_now view_is

      pub eke-seg : IsSeg u eked live
      eke-seg = seg-same inv its_block eke_write eke_now live_row fitting

    -- no row any more
    module _ (m b : ℕ) (m_is : m ≡ get_or v.masks (slot / ROWS) 0) (b_is : b ≡ 2 ^ (slot % ROWS)) where
      abbrev pub taken : Vectors
      taken = record v { masks = set v.masks (slot / ROWS) (bit_xor m b) }

      take_others : (i : ℕ) → i ≢ slot % ROWS
          → bit_at (bit_xor m b) i ≡ bit_at (get_or v.masks (slot / ROWS) 0) i
      take_others i apart = ap (λ c. bit_at (bit_xor m c) i) b_is ∙ flip_other m (slot % ROWS) i apart
          ∙ ap (λ n. bit_at n i) m_is

      take_write : IsWrite u slot v taken
      take_write = record {
        targets = refl;
        extras = refl;
        masks = length-set v.masks (slot / ROWS) (bit_xor m b);
        bit_other = bit_other v.masks slot (bit_xor m b) live_mask take_others;
        target_other = λ q apart. refl;
        extra_other = λ q apart. refl;
      }

      take_none : row_in u taken slot ≡ None
      take_none = row-clear _ _ _ _
          (bit_same v.masks slot (bit_xor m b) live_mask take_others
          ∙ ap (λ c. bit_at (bit_xor m c) (slot % ROWS)) b_is ∙ flip_same m (slot % ROWS)
          ∙ ap (λ n. 1 - bit_at n (slot % ROWS)) m_is ∙ ap (λ n. 1 - n) bit_now)

      pub take-view : table_in u taken ≡ without_row t slot
      take-view = view-take inv its_block take_write live_row take_none view_is

      pub take-seg : IsSeg u taken (live - 1)
      take-seg = seg-gone inv its_block take_write live_row take_none

    pub take_live : 1 ≤ live
    take_live = live_counts inv slot h live_row
