-- The roots of a table, slot by slot, block by block, and all.
use Rattle.hd_scan.proofs.Basics.{Addr, AllZip, BlockUse, Contains, Err, Global, Handle, IfOk, IsTable, Kind, List, MatchResult, None, Ok, Option, ROWS, Result, Root, Some, Table, Vec, [], ap, arith, block_kind_of, extra_data, flat_map, get, handles_of, held_of, map, option_and_then, option_map, option_to_list, range_with_len, refl, root_at, root_by, root_in, roots_in, roots_of, roots_of_block, row_at, subst, suc, sym, with_entry, zero, ℕ, ◌*◌, ◌++◌, ◌+◌, ◌/◌, ◌<◌, ◌∙◌, ◌∷◌, ◌≡◌, ◌≢◌, ◌≤◌}
use Rattle.std.proofs.{lemmas.List.append-nil, lemmas.List.Concat.flat_map-append}
use Rattle.hd_seg.specs.{declared.row.BlockKind.BlockKind, Mapped.entries_of}
use Rattle.hd_scan.proofs.EntryRanges.{entries-join, entries-none, entries-are}
use Rattle.hd_seg.specs.declared.row.BlockKind.TheVariants as block

-- the root in one slot, as a list
one_root : (k : ℕ) (o : Option (Handle Addr)) → roots_in root_by (with_entry k o [])
    ≡ option_to_list (option_and_then
    (λ (h : Handle Addr). option_map (root_by (record { 0 = k }) h.kind) (held_of h)) o)
one_root k None = refl
one_root k (Some h) = append-nil (root_in root_by (k, h))

module _ (t : Table) where
  -- nothing is listed before the first row
  pub none_yet : (first : ℕ) → [] ≡ roots_in root_by (entries_of first 0 (row_at t))
  unfolding entries_of
  none_yet first = refl

  one_entry : (k : ℕ) → entries_of k 1 (row_at t) ≡ with_entry k (row_at t k) []
  unfolding entries_of
  one_entry k = refl

  -- and a row adds its root
  pub one_more : (first n : ℕ) → roots_in root_by (entries_of first (n + 1) (row_at t))
      ≡ roots_in root_by (entries_of first n (row_at t))
      ++ option_to_list (root_at t (record { 0 = first + n }))
  one_more first n =
      ap (roots_in root_by) (entries-join (row_at t) first n 1)
      ∙ flat_map-append (root_in root_by) (entries_of first n (row_at t))
      (entries_of (first + n) 1 (row_at t))
      ∙ ap (λ es. roots_in root_by (entries_of first n (row_at t)) ++ roots_in root_by es)
      (one_entry (first + n)) ∙ ap (λ rs. roots_in root_by (entries_of first n (row_at t)) ++ rs)
      (one_root (first + n) (row_at t (first + n)))

same_use : (o : Option BlockUse) (j k : Kind) → block.Rows k ≡ block_kind_of o → o ≡ Some (handles_of j) → j
    ≡ k
same_use None j k is use_is = cc
same_use (Some (handles_of i)) j k is use_is = cc
same_use (Some extra_data) j k is use_is = cc

no_use : (o : Option BlockUse) (j : Kind) (b : BlockKind) → b ≡ block_kind_of o
    → ((k : Kind) → b ≢ block.Rows k) → o ≢ Some (handles_of j)
no_use o j b is other use_is = other j (is ∙ ap block_kind_of use_is)

module _ (t : Table) (is : IsTable t) (b : ℕ) where
  at_block : (slot : ℕ) → ROWS * b ≤ slot → slot < ROWS * b + ROWS → slot / ROWS ≡ b
  at_block slot low high = omega (arith, low, high)

  -- a row is of the kind of its block
  pub of_kind : (kind : Kind) (row : ℕ) → row < ROWS → block.Rows kind ≡ block_kind_of (get t.uses b)
      → (h : Handle Addr) → row_at t (ROWS * b + row) ≡ Some h → h.kind ≡ kind
  of_kind kind row less use_is h is_stored =
      same_use (get t.uses b) h.kind kind use_is
      (ap (get t.uses) (sym (at_block (ROWS * b + row) (omega arith) (omega arith)))
      ∙ (is.rows (ROWS * b + row) h is_stored).block)

  -- and a block that is not of handles has none
  no_row : (o : Option (Handle Addr)) (slot : ℕ) → row_at t slot ≡ o → slot / ROWS ≡ b
      → ((j : Kind) → get t.uses b ≢ Some (handles_of j)) → o ≡ None
  no_row None slot is_stored at none = refl
  no_row (Some h) slot is_stored at none =
      absurd (none h.kind (ap (get t.uses) (sym at) ∙ (is.rows slot h is_stored).block))

  pub no_roots : (k : BlockKind) → k ≡ block_kind_of (get t.uses b) → ((j : Kind) → k ≢ block.Rows j)
      → [] ≡ roots_of_block t b
  no_roots k use_is other =
      sym (ap (roots_in root_by) (entries-none (row_at t) (ROWS * b) ROWS (λ q low high.
      no_row (row_at t q) q refl (at_block q low high) (λ j. no_use (get t.uses b) j k use_is other))))

-- where no handle holds its target there is no root
no_root : (o : Option (Handle Addr)) (k : ℕ) → ((h : Handle Addr) → o ≡ Some h → held_of h ≡ None)
    → option_and_then (λ (h : Handle Addr). option_map (root_by (record { 0 = k }) h.kind) (held_of h)) o ≡ None
no_root None k none = refl
no_root (Some h) k none = ap (option_map (root_by (record { 0 = k }) h.kind)) (none h refl)

module _ (t : Table) (first : ℕ) where
  none_held : (n : ℕ) → ((row : ℕ) → row < n → root_at t (record { 0 = first + row }) ≡ None)
      → [] ≡ roots_in root_by (entries_of first n (row_at t))
  none_held zero none = none_yet t first
  none_held (suc n) none =
      let next : n + 1 ≡ suc n = omega arith in
      (λ i. none_held n (λ row less. none row (omega arith)) i ++ option_to_list (sym (none n (omega arith)) i))
      ∙ sym (one_more t first n) ∙ ap (λ k. roots_in root_by (entries_of first k (row_at t))) next

-- so none in a block whose kind never holds
pub none_holds : (t : Table) → IsTable t → (b : ℕ) (kind : Kind) → block.Rows kind ≡ block_kind_of (get t.uses b)
    → ((h : Handle Addr) → h.kind ≡ kind → held_of h ≡ None) → [] ≡ roots_of_block t b
none_holds t is b kind use_is none =
    none_held t (ROWS * b) ROWS (λ row less. no_root (row_at t (ROWS * b + row)) (ROWS * b + row)
    (λ h is_stored. none h (of_kind t is b kind row less use_is h is_stored)))

module _ (t : Table) where
  -- the roots of n blocks
  pub blocks_join : (b n : ℕ) → flat_map (roots_of_block t) (range_with_len b n)
      ≡ roots_in root_by (entries_of (ROWS * b) (ROWS * n) (row_at t))
  blocks_join b zero =
      let none : 0 ≡ ROWS * 0 = omega arith in
      none_yet t (ROWS * b) ∙ ap (λ k. roots_in root_by (entries_of (ROWS * b) k (row_at t))) none
  blocks_join b (suc n) =
      let next : ROWS * (b + 1) ≡ ROWS * b + ROWS = omega arith in
      let more : ROWS + ROWS * n ≡ ROWS * suc n = omega arith in
      ap (λ rs. roots_of_block t b ++ rs) (blocks_join (b + 1) n
      ∙ ap (λ k. roots_in root_by (entries_of k (ROWS * n) (row_at t))) next)
      ∙ sym (flat_map-append (root_in root_by) (entries_of (ROWS * b) ROWS (row_at t))
      (entries_of (ROWS * b + ROWS) (ROWS * n) (row_at t)))
      ∙ ap (roots_in root_by) (sym (entries-join (row_at t) (ROWS * b) ROWS (ROWS * n))
      ∙ ap (λ k. entries_of (ROWS * b) k (row_at t)) more)

  -- those of one block more
  pub next_block : (n : ℕ) → roots_in root_by (entries_of ROWS (ROWS * (n + 1)) (row_at t))
      ≡ roots_in root_by (entries_of ROWS (ROWS * n) (row_at t)) ++ roots_of_block t (n + 1)
  next_block n =
      let more : ROWS * (n + 1) ≡ ROWS * n + ROWS = omega arith in
      let next : ROWS + ROWS * n ≡ ROWS * (n + 1) = omega arith in
      let before = roots_in root_by (entries_of ROWS (ROWS * n) (row_at t)) in
      ap (λ k. roots_in root_by (entries_of ROWS k (row_at t))) more
      ∙ ap (roots_in root_by) (entries-join (row_at t) ROWS (ROWS * n) ROWS)
      ∙ flat_map-append (root_in root_by) (entries_of ROWS (ROWS * n) (row_at t))
      (entries_of (ROWS + ROWS * n) ROWS (row_at t))
      ∙ ap (λ k. before ++ roots_in root_by (entries_of k ROWS (row_at t))) next

  -- and those of all
  pub all_rows : IsTable t → roots_in root_by (entries_of ROWS (ROWS * t.blocks) (row_at t)) ≡ roots_of t
  all_rows is = ap (roots_in root_by) (sym (entries-are t.rows ROWS (ROWS * t.blocks) (λ q h is_stored.
      let row = is.rows q h is_stored in (omega (arith, row.low), omega (arith, row.high)))))

  pub all_blocks : IsTable t → flat_map (roots_of_block t) (range_with_len 1 t.blocks) ≡ roots_of t
  all_blocks is = blocks_join 1 t.blocks ∙ all_rows is

-- the lists of all blocks, each as it was returned
pub in_order : (E : Type 0) (g : ℕ → List Root) (bs : List ℕ) (vs : List (Vec Root Global))
    → AllZip (λ b (r : Result (Vec Root Global) E). IfOk r (λ v. v.items ≡ g b)) bs (map Ok vs)
    → flat_map (λ (v : Vec Root Global). v.items) vs ≡ flat_map g bs
in_order E g [] [] each = refl
in_order E g [] (v ∷ vs) each = absurd each
in_order E g (b ∷ bs) [] each = absurd each
in_order E g (b ∷ bs) (v ∷ vs) each =
    ap (λ l. l ++ flat_map (λ (w : Vec Root Global). w.items) vs) each.0
    ∙ ap (λ l. g b ++ l) (in_order E g bs vs each.1)

-- the lists of all blocks, where none ran out of memory
abbrev pub IsMadeOf : {E : Type 0} → List (Result (Vec Root Global) E)
    → Result (Vec (Vec Root Global) Global) E → Type 0
IsMadeOf rs made = MatchResult made
    (λ parts. (vs : List (Vec Root Global)) × (rs ≡ map Ok vs) × (parts.items ≡ vs))
    (λ e. Contains rs (Err e))

pub gathered : (E : Type 0) (t : Table) (bs : List ℕ) (rs : List (Result (Vec Root Global) E))
    (made : Result (Vec (Vec Root Global) Global) E) (parts : Vec (Vec Root Global) Global) → IsTable t
    → bs ≡ range_with_len 1 t.blocks
    → AllZip (λ b (r : Result (Vec Root Global) E). IfOk r (λ v. v.items ≡ roots_of_block t b)) bs rs
    → IsMadeOf rs made → made ≡ Ok parts
    → flat_map (λ (v : Vec Root Global). v.items) parts.items ≡ roots_of t
gathered E t bs rs made parts is range each of ok =
    let lists = subst (IsMadeOf rs) ok of in
    ap (flat_map (λ (v : Vec Root Global). v.items)) lists.2 ∙ in_order E (roots_of_block t) bs lists.0
    (subst (AllZip (λ b (r : Result (Vec Root Global) E). IfOk r (λ v. v.items ≡ roots_of_block t b)) bs)
    lists.1 each)
    ∙ ap (flat_map (roots_of_block t)) range ∙ all_blocks t is
