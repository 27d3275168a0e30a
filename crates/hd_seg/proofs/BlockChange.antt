-- Rows are unchanged where a block comes into use or is taken back.
use Rattle.hd_seg.proofs.Basics.{BlockUse, IsPaired, IsSeg, IsSome, IsTable, Kind, None, Option, ROWS, Some, Table, Uses, Vectors, ap, arith, cases_eq, cond, extra_at, extra_data, extra_index, false, get, get_beside, get_left, handles_of, has_handles, inl, inr, insert, is_paired, is_single, is_some, kind_in, len, live_bit, mapped, not-true, extra_index_in, refl, remove, subst, row_by, row_in, same_Some, sym, table_in, target_at, true, true≢false, with_block, with_data, without_block, ℕ, ◌%◌, ◌*◌, ◌/◌, ◌∙◌, ◌≡◌, ◌≢◌, ◌≤◌}
use Rattle.hd_seg.proofs.FunctionMaps.{mapped-same, get-insert_same, get-remove_same}
use Rattle.hd_seg.proofs.ChainLinks.{none_is_some, some_of, one_kind}
use Rattle.hd_seg.proofs.{BlockAdd.extras_apart, RowVectors.bit_is, RowVectors.row-clear, RowVectors.row-extras, RowVectors.row-unused, RowVectors.row_is}
use Rattle.hd_seg.specs.Pairs.{is_pair, without_data}

-- a use is not nothing
unused_apart : (o : Option BlockUse) (k : BlockUse) → o ≡ None → o ≡ Some k → ⊥
unused_apart o k none is = none_is_some _ none (some_of _ _ is)

module _ {u : Uses} {v : Vectors} {live : ℕ} (inv : IsSeg u v live) where
  -- other uses and data blocks of the same number of blocks, under which each row is as it was
  module _ (w : Uses) (blocks : w.table.blocks ≡ u.table.blocks)
      (rows : (q : ℕ) → row_in w v q ≡ row_in u v q) where
    pub rows-same : mapped ROWS (ROWS * w.table.blocks) (row_in w v) ≡ mapped ROWS (ROWS * u.table.blocks)
        (row_in u v)
    rows-same = mapped-same ROWS (ROWS * w.table.blocks) (row_in u v) (row_in w v) (λ q low high. rows q)
        ∙ ap (λ n. mapped ROWS (ROWS * n) (row_in u v)) blocks

    pub seg-same : IsTable w.table
        → ((q : ℕ) → has_handles (get w.table.uses (q / ROWS)) ≡ false → live_bit v.masks q ≡ 0)
        → IsPaired w → IsSeg w v live
    seg-same table placed paired = record {
      table = table;
      targets = omega (arith, inv.targets, blocks);
      extras = omega (arith, inv.extras, blocks);
      masks = omega (arith, inv.masks, blocks);
      counted = inv.counted ∙ sym (ap len rows-same);
      placed = placed;
      fitting = λ q h is. inv.fitting q h (sym (rows q) ∙ is);
      paired = paired;
    }

  -- no bit of an unused block is set
  unused_bit : (q : ℕ) → get u.table.uses (q / ROWS) ≡ None → live_bit v.masks q ≡ 0
  unused_bit q none = inv.placed q (ap has_handles none)

  -- ---- a block of handles
  module _ (k : Kind) (b : ℕ) (none : get u.table.uses b ≡ None) (plain : get u.extras b ≡ None) where
    abbrev pub one : Uses
    one = record u { table = with_block u.table k b }

    one_use : (q : ℕ) → q ≢ b → get one.table.uses q ≡ get u.table.uses q
    one_use q apart = get_beside u.table.uses b (handles_of k) q apart

    one_here : (q : ℕ) → q ≡ b → get one.table.uses q ≡ Some (handles_of k)
    one_here q same = get-insert_same u.table.uses b (handles_of k) q same

    was_none : (q : ℕ) → q ≡ b → get u.table.uses q ≡ None
    was_none q same = ap (get u.table.uses) same ∙ none

    pub one_rows : (q : ℕ) → row_in one v q ≡ row_in u v q
    one_rows q =
        elim (cases_eq (q / ROWS) b) [
          | inl same ↦ row-clear _ _ _ _ (unused_bit q (was_none (q / ROWS) same))
              ∙ sym (row-unused _ (live_bit v.masks q) _ _ (was_none (q / ROWS) same))
          | inr apart ↦ ap (λ o. row_by o (live_bit v.masks q) (target_at v.targets q)
              (extra_at v.extras (extra_index u q))) (one_use (q / ROWS) apart)
        ]

    one_placed : (q : ℕ) → has_handles (get one.table.uses (q / ROWS)) ≡ false → live_bit v.masks q ≡ 0
    one_placed q none =
        elim (cases_eq (q / ROWS) b) [
          | inl same ↦ unused_bit q (was_none (q / ROWS) same)
          | inr apart ↦ inv.placed q (ap has_handles (sym (one_use (q / ROWS) apart)) ∙ none)
        ]

    one_paired : is_paired k ≡ false → IsPaired one
    one_paired single = record {
      paired = λ q j is.
          elim (cases_eq q b) [
            | inl same ↦ ap (λ n. is_some (get u.extras n)) same ∙ ap is_some plain ∙ sym single
                ∙ ap is_paired (one_kind _ k j (one_here q same) is)
            | inr apart ↦ inv.paired.paired q j (sym (one_use q apart) ∙ is)
          ];
      used = λ q d is.
          let old : get u.table.uses d ≡ Some extra_data = inv.paired.used q d is in
          one_use d (λ same. unused_apart _ extra_data (was_none d same) old) ∙ old;
      within = inv.paired.within;
      apart = inv.paired.apart;
    }

    pub one-seg : is_paired k ≡ false → IsTable (with_block u.table k b) → IsSeg one v live
    one-seg single table = seg-same one refl one_rows table one_placed (one_paired single)

    pub one-view : {t : Table} → table_in u v ≡ t → table_in one v ≡ with_block t k b
    one-view is =
        ap (λ m. let s : Table = record (with_block u.table k b) { rows = m } in s)
        (rows-same one refl one_rows) ∙ ap (λ s. with_block s k b) is

    -- ---- and its data block
    module _ (d : ℕ) (unused : get u.table.uses d ≡ None) (apart : d ≢ b) (within : d ≤ u.table.blocks) where
      abbrev pub two : Uses
      two = record { table = with_data (with_block u.table k b) d; extras = insert u.extras b d }

      two_use : (q : ℕ) → q ≢ b → q ≢ d → get two.table.uses q ≡ get u.table.uses q
      two_use q not_b not_d = get_beside one.table.uses d extra_data q not_d ∙ one_use q not_b

      two_here : (q : ℕ) → q ≡ b → get two.table.uses q ≡ Some (handles_of k)
      two_here q same = get_beside one.table.uses d extra_data q (λ other. apart (sym other ∙ same))
          ∙ one_here q same

      two_data : (q : ℕ) → q ≡ d → get two.table.uses q ≡ Some extra_data
      two_data q same = get-insert_same one.table.uses d extra_data q same

      d_none : (q : ℕ) → q ≡ d → get u.table.uses q ≡ None
      d_none q same = ap (get u.table.uses) same ∙ unused

      index_other : (q : ℕ) → q / ROWS ≢ b → extra_index two q ≡ extra_index u q
      index_other q not_b = ap (λ o. extra_index_in o (q % ROWS)) (get_beside u.extras b d (q / ROWS) not_b)

      pub two_rows : (q : ℕ) → row_in two v q ≡ row_in u v q
      two_rows q =
          elim (cases_eq (q / ROWS) b) [
            | inl same ↦ row-clear _ _ _ _ (unused_bit q (was_none (q / ROWS) same))
                ∙ sym (row-unused _ (live_bit v.masks q) _ _ (was_none (q / ROWS) same))
            | inr not_b ↦ elim (cases_eq (q / ROWS) d) [
              | inl same ↦ row-clear _ _ _ _ (unused_bit q (d_none (q / ROWS) same))
                  ∙ sym (row-unused _ (live_bit v.masks q) _ _ (d_none (q / ROWS) same))
              | inr not_d ↦ λ i. row_by (two_use (q / ROWS) not_b not_d i) (live_bit v.masks q)
                  (target_at v.targets q) (extra_at v.extras (index_other q not_b i))
            ]
          ]

      two_placed : (q : ℕ) → has_handles (get two.table.uses (q / ROWS)) ≡ false → live_bit v.masks q ≡ 0
      two_placed q none =
          elim (cases_eq (q / ROWS) b) [
            | inl same ↦ unused_bit q (was_none (q / ROWS) same)
            | inr not_b ↦ elim (cases_eq (q / ROWS) d) [
              | inl same ↦ unused_bit q (d_none (q / ROWS) same)
              | inr not_d ↦ inv.placed q (ap has_handles (sym (two_use (q / ROWS) not_b not_d)) ∙ none)
            ]
          ]

      old_data : (q e : ℕ) → q ≢ b → get two.extras q ≡ Some e → get u.extras q ≡ Some e
      old_data q e not_b is = sym (get_beside u.extras b d q not_b) ∙ is

      here_data : (q e : ℕ) → q ≡ b → get two.extras q ≡ Some e → e ≡ d
      here_data q e same is = same_Some e d (sym is ∙ get-insert_same u.extras b d q same)

      not_d_before : (q e : ℕ) → get u.extras q ≡ Some e → e ≢ d
      not_d_before q e is same = unused_apart _ extra_data (d_none e same) (inv.paired.used q e is)

      two_paired : is_paired k ≡ true → IsPaired two
      two_paired paired = record {
        paired = λ q j is.
            elim (cases_eq q b) [
              | inl same ↦ ap is_some (get-insert_same u.extras b d q same) ∙ sym paired
                  ∙ ap is_paired (one_kind _ k j (two_here q same) is)
              | inr not_b ↦
                  let not_d : q ≢ d = λ same. extras_apart _ j (two_data q same) is in
                  ap is_some (get_beside u.extras b d q not_b)
                  ∙ inv.paired.paired q j (sym (two_use q not_b not_d) ∙ is)
            ];
        used = λ q e is.
            elim (cases_eq q b) [
              | inl same ↦ two_data e (here_data q e same is)
              | inr not_b ↦
                  let old : get u.table.uses e ≡ Some extra_data =
                  inv.paired.used q e (old_data q e not_b is) in
                  two_use e (λ same. unused_apart _ extra_data (was_none e same) old)
                  (not_d_before q e (old_data q e not_b is)) ∙ old
            ];
        within = λ q e is.
            elim (cases_eq q b) [
              | inl same ↦ omega (arith, here_data q e same is, within)
              | inr not_b ↦ inv.paired.within q e (old_data q e not_b is)
            ];
        apart = λ q r e is is'. elim (cases_eq q b) [
          | inl same ↦ elim (cases_eq r b) [
            | inl also ↦ same ∙ sym also
            | inr not_b ↦ absurd (not_d_before r e (old_data r e not_b is') (here_data q e same is))
          ]
          | inr not_b ↦ elim (cases_eq r b) [
            | inl also ↦ absurd (not_d_before q e (old_data q e not_b is) (here_data r e also is'))
            | inr neither ↦ inv.paired.apart q r e (old_data q e not_b is) (old_data r e neither is')
          ]
        ];
      }

      pub two-seg : is_paired k ≡ true → IsTable (with_data (with_block u.table k b) d) → IsSeg two v live
      two-seg paired table = seg-same two refl two_rows table two_placed (two_paired paired)

      pub two-view : {t : Table} → table_in u v ≡ t
          → table_in two v ≡ with_data (with_block t k b) d
      two-view is =
          ap (λ m. let s : Table = record (with_data (with_block u.table k b) d) { rows = m } in s)
          (rows-same two refl two_rows) ∙ ap (λ s. with_data (with_block s k b) d) is

  -- ---- a block that is taken back
  module _ (b : ℕ) (k : Kind) (in_use : get u.table.uses b ≡ Some (handles_of k))
      (vacant : (q : ℕ) → q / ROWS ≡ b → row_in u v q ≡ None) where
    abbrev pub back : Uses
    back = record u { table = without_block u.table k b }

    back_use : (q : ℕ) → q ≢ b → get back.table.uses q ≡ get u.table.uses q
    back_use q apart = get_left u.table.uses b q apart

    back_none : (q : ℕ) → q ≡ b → get back.table.uses q ≡ None
    back_none q same = get-remove_same u.table.uses b q same

    pub back_rows : (q : ℕ) → row_in back v q ≡ row_in u v q
    back_rows q =
        elim (cases_eq (q / ROWS) b) [
          | inl same ↦ row-unused _ (live_bit v.masks q) _ _ (back_none (q / ROWS) same) ∙ sym (vacant q same)
          | inr apart ↦ ap (λ o. row_by o (live_bit v.masks q) (target_at v.targets q)
              (extra_at v.extras (extra_index u q))) (back_use (q / ROWS) apart)
        ]

    back_placed : (q : ℕ) → has_handles (get back.table.uses (q / ROWS)) ≡ false → live_bit v.masks q ≡ 0
    back_placed q none =
        elim (cases_eq (q / ROWS) b) [
          | inl same ↦ bit_is inv q ∙ ap (λ o. let n : ℕ = cond (is_some o) 1 0 in n) (vacant q same)
          | inr apart ↦ inv.placed q (ap has_handles (sym (back_use (q / ROWS) apart)) ∙ none)
        ]

    pub back-seg : IsTable (without_block u.table k b) → IsSeg back v live
    back-seg table =
        seg-same back refl back_rows table back_placed
        (record {
          paired = λ q j is.
              let apart : q ≢ b = λ same. unused_apart _ (handles_of j) (back_none q same) is in
              inv.paired.paired q j (sym (back_use q apart) ∙ is);
          used = λ q d is.
              let old : get u.table.uses d ≡ Some extra_data = inv.paired.used q d is in
              back_use d (λ same. extras_apart _ k old (ap (get u.table.uses) same ∙ in_use)) ∙ old;
          within = inv.paired.within;
          apart = inv.paired.apart;
        })

    pub back-view : {t : Table} → table_in u v ≡ t → table_in back v ≡ without_block t k b
    back-view is =
        ap (λ m. let s : Table = record (without_block u.table k b) { rows = m } in s)
        (rows-same back refl back_rows) ∙ ap (λ s. without_block s k b) is

    -- ---- and its data block
    module _ (d : ℕ) (has : get u.extras b ≡ Some d) where
      abbrev pub back_pair : Uses
      back_pair = record { table = without_block (without_data u.table d) k b; extras = remove u.extras b }

      pub pair_data : get u.table.uses d ≡ Some extra_data
      pair_data = inv.paired.used b d has

      pub pair_apart : b ≢ d
      pair_apart same = extras_apart _ k pair_data (ap (get u.table.uses) (sym same) ∙ in_use)

      pair_none : (q : ℕ) → q ≡ b → get back_pair.table.uses q ≡ None
      pair_none q same = get-remove_same (remove u.table.uses d) b q same

      pair_gone : (q : ℕ) → q ≡ d → get back_pair.table.uses q ≡ None
      pair_gone q same =
          get_left (remove u.table.uses d) b q (λ other. pair_apart (sym other ∙ same))
          ∙ get-remove_same u.table.uses d q same

      pair_use : (q : ℕ) → q ≢ b → q ≢ d → get back_pair.table.uses q ≡ get u.table.uses q
      pair_use q not_b not_d = get_left (remove u.table.uses d) b q not_b ∙ get_left u.table.uses d q not_d

      data_of : (q : ℕ) → q ≡ d → get u.table.uses q ≡ Some extra_data
      data_of q same = ap (get u.table.uses) same ∙ pair_data

      pair_index : (q : ℕ) → q / ROWS ≢ b → extra_index back_pair q ≡ extra_index u q
      pair_index q not_b = ap (λ o. extra_index_in o (q % ROWS)) (get_left u.extras b (q / ROWS) not_b)

      pair_rows : (q : ℕ) → row_in back_pair v q ≡ row_in u v q
      pair_rows q =
          elim (cases_eq (q / ROWS) b) [
            | inl same ↦ row-unused _ (live_bit v.masks q) _ _ (pair_none (q / ROWS) same) ∙ sym (vacant q same)
            | inr not_b ↦ elim (cases_eq (q / ROWS) d) [
              | inl same ↦ row-unused _ (live_bit v.masks q) _ _ (pair_gone (q / ROWS) same)
                  ∙ sym (row-extras _ (live_bit v.masks q) _ _ (data_of (q / ROWS) same))
              | inr not_d ↦ λ i. row_by (pair_use (q / ROWS) not_b not_d i) (live_bit v.masks q)
                  (target_at v.targets q) (extra_at v.extras (pair_index q not_b i))
            ]
          ]

      pair_placed : (q : ℕ) → has_handles (get back_pair.table.uses (q / ROWS)) ≡ false
          → live_bit v.masks q ≡ 0
      pair_placed q none =
          elim (cases_eq (q / ROWS) b) [
            | inl same ↦ bit_is inv q ∙ ap (λ o. let n : ℕ = cond (is_some o) 1 0 in n) (vacant q same)
            | inr not_b ↦ elim (cases_eq (q / ROWS) d) [
              | inl same ↦ inv.placed q (ap has_handles (data_of (q / ROWS) same))
              | inr not_d ↦ inv.placed q (ap has_handles (sym (pair_use (q / ROWS) not_b not_d)) ∙ none)
            ]
          ]

      -- another block has the data block that it had
      left_b : (q e : ℕ) → get back_pair.extras q ≡ Some e → q ≢ b
      left_b q e is same = none_is_some _ (get-remove_same u.extras b q same) (some_of _ _ is)

      left_data : (q e : ℕ) → get back_pair.extras q ≡ Some e → get u.extras q ≡ Some e
      left_data q e is = sym (get_left u.extras b q (left_b q e is)) ∙ is

      pair_paired : IsPaired back_pair
      pair_paired = record {
        paired = λ q j is.
            let not_b : q ≢ b = λ same. unused_apart _ (handles_of j) (pair_none q same) is in
            let not_d : q ≢ d = λ same. unused_apart _ (handles_of j) (pair_gone q same) is in
            ap is_some (get_left u.extras b q not_b)
            ∙ inv.paired.paired q j (sym (pair_use q not_b not_d) ∙ is);
        used = λ q e is.
            let old : get u.extras q ≡ Some e = left_data q e is in
            let was : get u.table.uses e ≡ Some extra_data = inv.paired.used q e old in
            pair_use e (λ same. extras_apart _ k was (ap (get u.table.uses) same ∙ in_use))
            (λ same. left_b q e is (inv.paired.apart q b d (old ∙ ap Some same) has)) ∙ was;
        within = λ q e is. inv.paired.within q e (left_data q e is);
        apart = λ q r e is is'. inv.paired.apart q r e (left_data q e is) (left_data r e is');
      }

      pub pair-seg : IsTable (without_block (without_data u.table d) k b) → IsSeg back_pair v live
      pair-seg table = seg-same back_pair refl pair_rows table pair_placed pair_paired

      pub pair-view : {t : Table} → table_in u v ≡ t
          → table_in back_pair v ≡ without_block (without_data t d) k b
      pair-view is =
          ap (λ m. let s : Table = record (without_block (without_data u.table d) k b) { rows = m } in s)
          (rows-same back_pair refl pair_rows) ∙ ap (λ s. without_block (without_data s d) k b) is

-- a block that can be taken back has handles of a kind without extras
pub single_in : (o : Option BlockUse) → is_single o ≡ true → (o ≡ Some (handles_of (kind_in o)))
    × (is_paired (kind_in o) ≡ false)
single_in None is = absurd (true≢false (sym is))
single_in (Some extra_data) is = absurd (true≢false (sym is))
single_in (Some (handles_of k)) is = (refl, not-true (is_paired k) is)

pub pair_in : (o : Option BlockUse) → is_pair o ≡ true → (o ≡ Some (handles_of (kind_in o)))
    × (is_paired (kind_in o) ≡ true)
pair_in None is = absurd (true≢false (sym is))
pair_in (Some extra_data) is = absurd (true≢false (sym is))
pair_in (Some (handles_of k)) is = (refl, is)

-- a block of handles with extra data, as the table's value has it, is taken back with its data block
module _ {u : Uses} {v : Vectors} {live : ℕ} (inv : IsSeg u v live) {t : Table} (view : table_in u v ≡ t) (b : ℕ)
    (pair : is_pair (get t.uses b) ≡ true)
    (free : (slot : ℕ) → slot / ROWS ≡ b → get t.rows slot ≡ None) where
  it : (get u.table.uses b ≡ Some (handles_of (kind_in (get u.table.uses b))))
      × (is_paired (kind_in (get u.table.uses b)) ≡ true)
  it = pair_in (get u.table.uses b) (ap (λ (x : Table). is_pair (get x.uses b)) view ∙ pair)

  abbrev kind : Kind
  kind = kind_in (get u.table.uses b)

  no_row : (q : ℕ) → q / ROWS ≡ b → row_in u v q ≡ None
  no_row q is = sym (row_is inv q) ∙ ap (λ (x : Table). get x.rows q) view ∙ free q is

  pub has_data : IsSome (get u.extras b)
  has_data = inv.paired.paired b kind it.0 ∙ it.1

  module _ (d : ℕ) (has : get u.extras b ≡ Some d) where
    pub data_use : get t.uses d ≡ Some extra_data
    data_use = sym (ap (λ (x : Table). get x.uses d) view) ∙ inv.paired.used b d has

    -- the block without its data block
    still : get (remove u.table.uses d) b ≡ get u.table.uses b
    still = get_left u.table.uses d b (pair_apart inv b kind it.0 no_row d has)

    module _ {mid : Uses} (first : mid ≡ record { table = without_data u.table d; extras = remove u.extras b })
      where
        pub still_handles : has_handles (get mid.table.uses b) ≡ true
        still_handles = ap (λ (w : Uses). has_handles (get w.table.uses b)) first
            ∙ ap has_handles (still ∙ it.0)

        pub no_data : get mid.extras b ≡ None
        no_data = ap (λ (w : Uses). get w.extras b) first ∙ get-remove_same u.extras b b refl

        module _ {new : Uses} (second : new ≡
            record mid { table = without_block mid.table (kind_in (get mid.table.uses b)) b }) where
          both : new ≡ back_pair inv b kind it.0 no_row d has
          both =
              let left = remove u.extras b in
              let without = without_data u.table d in
              second
              ∙ ap (λ (w : Uses). record w { table = without_block w.table (kind_in (get w.table.uses b)) b }) first
              ∙ ap (λ k. let w : Uses = record { table = without_block without k b; extras = left } in w)
              (ap kind_in still)

          pub back_both : IsTable new.table → IsSeg new v live
          back_both table =
              subst (λ w. IsSeg w v live) (sym both)
              (pair-seg inv b kind it.0 no_row d has (subst (λ (w : Uses). IsTable w.table) both table))

          pub view_both : table_in new v ≡ without_block (without_data t d) (kind_in (get t.uses b)) b
          view_both =
              ap (λ w. table_in w v) both ∙ pair-view inv b kind it.0 no_row d has view
              ∙ ap (λ k. without_block (without_data t d) k b)
              (ap (λ (x : Table). kind_in (get x.uses b)) view)
