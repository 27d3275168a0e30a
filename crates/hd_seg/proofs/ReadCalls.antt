-- What the reading calls return, by the fields and the value of a table.
use Rattle.hd_seg.proofs.Basics.{Addr, Bool, BlockUse, CLUMP, CLUMPS, Contains, Handle, IfSome, IsLeastWithout, IsSeg, IsTable, Kind, List, None, Option, ROWS, Some, Table, Uses, Vectors, [], ap, arith, bit_and, bit_at, bit_at-shr, chain_of, cond, contains_key, drop, drop_more, empty, empty_table, false, get, get-empty, get_beside, get_or, get_or_from_slice_get, handles_of, has_handles, is_some, kind_at, len, len-empty, length, length-replicate, live_bit, mapped, nat_cmp, refl, replicate, row_in, slice_get, slice_get_within, subst, suc, sym, table_in, take, take-append-drop, true, with_block, zero, ℕ, ◌%◌, ◌*◌, ◌++◌, ◌+◌, ◌/◌, ◌<◌, ◌==◌, ◌^◌, ◌∙◌, ◌∷◌, ◌≡◌, ◌≤◌, Extra}
use Rattle.std.proofs.lemmas.Nat.Bits.{bit_at-zero, bit_at_and, bit_at_ones, bit_at-lt}
use Rattle.hd_model.proofs.WholeScenes.{if_some_from}
use Rattle.hd_seg.proofs.{FunctionMaps.mapped-empty, RowCalls.row_seen}
use Rattle.hd_seg.proofs.ChainLinks.{none_is_some, some_of, handles_in}
use Rattle.hd_seg.proofs.RowVectors.{bit_is, row-clear}
use Rattle.hd_model.specs.declared.handle.Extra.TheVariants.{Nothing}

-- an element by its index
contained : {A : Type 0} (xs : List A) (i : ℕ) (x : A) → slice_get xs i ≡ Some x → Contains xs x
contained xs i x is = (i, slice_get_within xs i x is, get_or_from_slice_get xs i x x is)

slice_get-drop : {A : Type 0} (xs : List A) (n : ℕ) → slice_get (drop n xs) 0 ≡ slice_get xs n
slice_get-drop xs zero = refl
slice_get-drop [] (suc n) = refl
slice_get-drop (x ∷ xs) (suc n) = slice_get-drop xs n

split_at : (xs : List ℕ) (i x : ℕ) → i < length xs → get_or xs i x ≡ x → xs ≡ take i xs ++ x ∷ drop (i + 1) xs
split_at xs i x lt is = sym (take-append-drop i xs)
    ∙ ap (λ ys. take i xs ++ ys) (drop_more xs i x lt ∙ ap (λ y. y ∷ drop (i + 1) xs) is)

-- ---- chains

-- a block of a chain
module _ (t : Table) (is : IsTable t) (k : Kind) where
  in_use : (b : ℕ) → Contains (chain_of t k) b → get t.uses b ≡ Some (handles_of k)
  in_use b has = (is.chained k b).0 has

  module _ (i : ℕ) (o : Option ℕ) (at : o ≡ slice_get (chain_of t k) i) where
    here_in_use : (b : ℕ) → o ≡ Some b → get t.uses b ≡ Some (handles_of k)
    here_in_use b here = in_use b (contained (chain_of t k) i b (sym at ∙ here))

    pub at_kind : IfSome o (λ b. get t.uses b ≡ Some (handles_of k))
    at_kind = if_some_from (λ b. get t.uses b ≡ Some (handles_of k)) o here_in_use

    pub at_within : IfSome o (λ b. (1 ≤ b) × (b ≤ t.blocks))
    at_within = if_some_from (λ b. (1 ≤ b) × (b ≤ t.blocks)) o
        (λ b here. is.uses b (some_of _ _ (here_in_use b here)))

module _ (t : Table) (is : IsTable t) (b : ℕ) (handles : has_handles (get t.uses b) ≡ true) (o : Option ℕ)
    (at : (before after : List ℕ) → chain_of t (kind_at t b) ≡ before ++ b ∷ after → o ≡ slice_get after 0)
  where
    followed : (x : ℕ) → o ≡ Some x → get t.uses x ≡ Some (handles_of (kind_at t b))
    followed x here =
        let has : Contains (chain_of t (kind_at t b)) b =
        (is.chained (kind_at t b) b).1 (handles_in (get t.uses b) handles) in
        let next : o ≡ slice_get (drop (has.0 + 1) (chain_of t (kind_at t b))) 0 =
        at (take has.0 (chain_of t (kind_at t b))) (drop (has.0 + 1) (chain_of t (kind_at t b)))
        (split_at (chain_of t (kind_at t b)) has.0 b has.1 has.2) in
        in_use t is (kind_at t b) x
        (contained (chain_of t (kind_at t b)) (has.0 + 1) x
        (sym (next ∙ slice_get-drop (chain_of t (kind_at t b)) (has.0 + 1)) ∙ here))

    pub after_kind : IfSome o (λ x. get t.uses x ≡ Some (handles_of (kind_at t b)))
    after_kind = if_some_from (λ x. get t.uses x ≡ Some (handles_of (kind_at t b))) o followed

    pub after_within : IfSome o (λ x. (1 ≤ x) × (x ≤ t.blocks))
    after_within = if_some_from (λ x. (1 ≤ x) × (x ≤ t.blocks)) o
        (λ x here. is.uses x (some_of _ _ (followed x here)))

-- ---- rows

-- the live rows of a block, by the bits of its mask
module _ {u : Uses} {v : Vectors} {live : ℕ} (inv : IsSeg u v live) {t : Table} (view_is : table_in u v ≡ t)
  where
    bit_seen : (slot : ℕ) → live_bit v.masks slot ≡ cond (contains_key t.rows slot) 1 0
    bit_seen slot = bit_is inv slot ∙ ap (λ o. let n : ℕ = cond (is_some o) 1 0 in n)
        (sym (row_seen inv slot view_is))

    pub row_bits : (mask block i : ℕ) → mask ≡ get_or v.masks block 0 → i < ROWS
        → bit_at mask i ≡ cond (contains_key t.rows (ROWS * block + i)) 1 0
    row_bits mask block i is lt =
        let at : (ROWS * block + i) / ROWS ≡ block = omega arith in
        let row : (ROWS * block + i) % ROWS ≡ i = omega arith in
        ap (λ m. bit_at m i) is ∙ ap (λ b. bit_at (get_or v.masks b 0) i) (sym at)
        ∙ ap (bit_at (get_or v.masks ((ROWS * block + i) / ROWS) 0)) (sym row) ∙ bit_seen (ROWS * block + i)

    -- whether a slot is live, by its bit
    pub live_seen : (slot : ℕ) → (live_bit v.masks slot == 1) ≡ contains_key t.rows slot
    live_seen slot = ap (λ n. n == 1) (bit_seen slot) ∙ at (contains_key t.rows slot)
      where
        at : (b : Bool) → (cond b 1 0 == 1) ≡ b
        at true = refl
        at false = refl

-- those of a clump
pub clump_bits : (t : Table) (mask block clump i : ℕ)
    → ((j : ℕ) → j < ROWS → bit_at mask j ≡ cond (contains_key t.rows (ROWS * block + j)) 1 0)
    → clump < CLUMPS → i < CLUMP → bit_at (bit_and (mask / 2 ^ (CLUMP * clump)) 65535) i
    ≡ cond (contains_key t.rows (ROWS * block + CLUMP * clump + i)) 1 0
clump_bits t mask block clump i bits few lt =
    let shifted : ℕ = mask / 2 ^ (CLUMP * clump) in
    let low : bit_at 65535 i ≡ 1 = bit_at_ones CLUMP i lt in
    let both : bit_at (bit_and shifted 65535) i ≡ bit_at shifted i =
    (let known = bit_at_and shifted 65535 i in
    omega (arith, known, low, bit_at-lt shifted i)) in
    both ∙ bit_at-shr mask (CLUMP * clump) i ∙ bits (CLUMP * clump + i) (omega arith)
    ∙ ap (λ q. cond (contains_key t.rows q) 1 0)
    (let e : ROWS * block + (CLUMP * clump + i) ≡ ROWS * block + CLUMP * clump + i = omega arith in e)

-- ---- the lowest unused block, with rows and without

pub with_rows_least : (u : Uses) (v : Vectors) {t : Table} → table_in u v ≡ t → {from b : ℕ}
    → IsLeastWithout u.table from b → IsLeastWithout t from b
with_rows_least u v is {from} {b} least =
    subst (λ s. IsLeastWithout s from b) is
    (record { low = least.low; high = least.high; unused = least.unused; least = least.least })

pub next_least : (s : Table) (k : Kind) (b d : ℕ) → IsLeastWithout (with_block s k b) (b + 1) d
    → IsLeastWithout s (b + 1) d
next_least s k b d least = record {
  low = least.low;
  high = least.high;
  unused = sym (get_beside s.uses b (handles_of k) d (λ same. absurd (omega (arith, least.low))))
      ∙ least.unused;
  least = λ q low below. ap is_some
      (sym (get_beside s.uses b (handles_of k) q (λ same. absurd (omega arith)))) ∙ least.least q low below;
}

-- ---- an empty table

no_mask : (n : ℕ) (b : ℕ) → get_or (replicate {A = ℕ} n 0) b 0 ≡ 0
no_mask zero b = refl
no_mask (suc n) zero = refl
no_mask (suc n) (suc b) = no_mask n b

module _ (blocks : ℕ) where
  abbrev none : Uses
  none = record { table = empty_table blocks; extras = empty }

  abbrev pub bare : Vectors
  bare = record {
    targets = replicate (ROWS * (blocks + 1)) None;
    extras = replicate (ROWS * (blocks + 1)) Nothing;
    masks = replicate (blocks + 1) 0;
  }

  no_bit : (q : ℕ) → live_bit bare.masks q ≡ 0
  no_bit q = ap (λ m. bit_at m (q % ROWS)) (no_mask (blocks + 1) (q / ROWS)) ∙ bit_at-zero (q % ROWS)

  no_row : (q : ℕ) → row_in none bare q ≡ None
  no_row q = row-clear _ _ _ _ (no_bit q)

  no_rows : mapped ROWS (ROWS * blocks) (row_in none bare) ≡ empty
  no_rows = mapped-empty ROWS (ROWS * blocks) (row_in none bare) (λ q low high. no_row q)

  no_use : {P : Type 0} (q : ℕ) (k : BlockUse) → get none.table.uses q ≡ Some k → P
  no_use q k is = absurd (none_is_some _ (get-empty nat_cmp q) (some_of _ _ is))

  no_data : {P : Type 0} (q d : ℕ) → get none.extras q ≡ Some d → P
  no_data q d is = absurd (none_is_some _ (get-empty nat_cmp q) (some_of _ _ is))

  pub seg-none : IsTable (empty_table blocks) → IsSeg (record { table = empty_table blocks; extras = empty })
      bare 0
  seg-none table = record {
    table = table;
    targets = omega (arith, length-replicate {A = Option Addr} (ROWS * (blocks + 1)) None);
    extras = omega (arith, length-replicate {A = Extra Addr} (ROWS * (blocks + 1)) Nothing);
    masks = omega (arith, length-replicate {A = ℕ} (blocks + 1) 0);
    counted = sym (ap len no_rows ∙ len-empty nat_cmp (Handle Addr));
    placed = λ q _. no_bit q;
    fitting = λ q h is. absurd (none_is_some _ (no_row q) (some_of _ _ is));
    paired = record {
      paired = λ b k is. no_use b (handles_of k) is;
      used = λ b d is. no_data b d is;
      within = λ b d is. no_data b d is;
      apart = λ a b d is is'. no_data a d is;
    };
  }

  pub view-none : table_in (record { table = empty_table blocks; extras = empty }) bare ≡ empty_table blocks
  view-none = ap (λ m. let s : Table = record (empty_table blocks) { rows = m } in s) no_rows
