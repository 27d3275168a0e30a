-- Rows by the vectors: what a write of one row does to others, and what a table's users see of it.
use Rattle.hd_seg.proofs.Basics.{Addr, BlockUse, Extra, Handle, IsPaired, IsSeg, IsTable, Kind, List, None, Option, ROWS, Some, Table, Uses, Vectors, ap, arith, bit_at, cases_eq, cond, drop, extra_at, extra_data, extra_from, extra_index, extra_index_in, extra_of, fits, get, get_or, get_or-set_other, get_or-set_same, handles_of, has_handles, inl, inr, is_some, length, length-set, live_bit, mapped, refl, row_by, row_in, set, subst, suc, sym, table_in, take, take_at, target_at, true, with_extra, zero, ℕ, ◌%◌, ◌*◌, ◌++◌, ◌+◌, ◌/◌, ◌<◌, ◌∙◌, ◌≡◌, ◌≢◌, ◌≤◌, ◌⊎◌}
use Rattle.std.proofs.lemmas.Nat.Bits.{bit_at-lt}
use Rattle.hd_seg.proofs.FunctionMaps.{get-mapped, get-mapped_out, cases_within, len-mapped_le}
use Rattle.hd_seg.proofs.{ChainLinks.some_of, RowRewrite.single_nothing}
use Rattle.hd_model.specs.declared.handle.Extra.TheVariants as extra

pub cases_option : {A : Type 0} (o : Option A) → (o ≡ None) ⊎ ((x : A) × (o ≡ Some x))
cases_option None = inl refl
cases_option (Some x) = inr (x, refl)

-- what a use is
pub cases_use : (o : Option BlockUse)
    → (o ≡ None) ⊎ ((o ≡ Some extra_data) ⊎ ((k : Kind) × (o ≡ Some (handles_of k))))
cases_use None = inl refl
cases_use (Some extra_data) = inr (inl refl)
cases_use (Some (handles_of k)) = inr (inr (k, refl))

pub extra-from-of : (e : Extra Addr) → extra_from (extra_of e) ≡ e
extra-from-of extra.Nothing = refl
extra-from-of (extra.Strength s) = refl
extra-from-of (extra.Secondary o) = refl
extra-from-of (extra.Count n) = refl

-- ---- one row

pub row-unused : (o : Option BlockUse) (n : ℕ) (t : Option Addr) (x : Extra Addr) → o ≡ None
    → row_by o n t x ≡ None
row-unused o n t x is = ap (λ u. row_by u n t x) is

pub row-extras : (o : Option BlockUse) (n : ℕ) (t : Option Addr) (x : Extra Addr) → o ≡ Some extra_data
    → row_by o n t x ≡ None
row-extras o n t x is = ap (λ u. row_by u n t x) is

-- a clear bit
pub row-clear : (o : Option BlockUse) (n : ℕ) (t : Option Addr) (x : Extra Addr) → n ≡ 0
    → row_by o n t x ≡ None
row-clear o n t x is = ap (λ m. row_by o m t x) is ∙ at o
  where
    at : (u : Option BlockUse) → row_by u 0 t x ≡ None
    at None = refl
    at (Some extra_data) = refl
    at (Some (handles_of k)) = refl

-- a set bit in a block of handles
pub row-set : (o : Option BlockUse) (k : Kind) (n : ℕ) (t : Option Addr) (x : Extra Addr)
    → o ≡ Some (handles_of k) → n ≡ 1
    → row_by o n t x ≡ Some (record { kind = k; target = t; extra = extra_of x })
row-set o k n t x is one = ap (λ u. row_by u n t x) is ∙ ap (λ m. row_by (Some (handles_of k)) m t x) one

-- a bit says whether the row of a block of handles is live
pub row-bit : (o : Option BlockUse) (k : Kind) (n : ℕ) (t : Option Addr) (x : Extra Addr)
    → o ≡ Some (handles_of k) → n < 2 → n ≡ cond (is_some (row_by o n t x)) 1 0
row-bit o k n t x is few = at n few ∙ sym (ap (λ u. cond (is_some (row_by u n t x)) 1 0) is)
  where
    at : (m : ℕ) → m < 2 → m ≡ cond (is_some (row_by (Some (handles_of k)) m t x)) 1 0
    at zero less = refl
    at (suc zero) less = refl
    at (suc (suc m)) less = absurd (omega arith)

-- the parts of a live row
pub record HasParts (o : Option BlockUse) (t : Option Addr) (x : Extra Addr) (h : Handle Addr) : Type 0 where
  pub use_is : o ≡ Some (handles_of h.kind)
  pub target_is : t ≡ h.target
  pub extra_is : extra_of x ≡ h.extra

pub parts : (o : Option BlockUse) (n : ℕ) (t : Option Addr) (x : Extra Addr) (h : Handle Addr)
    → row_by o n t x ≡ Some h → HasParts o t x h
parts None n t x h is = absurd (cc)
parts (Some extra_data) n t x h is = absurd (cc)
parts (Some (handles_of k)) zero t x h is = absurd (cc)
parts (Some (handles_of k)) (suc n) t x h is =
    let same : record { kind = k; target = t; extra = extra_of x } ≡ h = cc in
    record {
      use_is = ap (λ (i : Handle Addr). Some (handles_of i.kind)) same;
      target_is = ap (λ (i : Handle Addr). i.target) same;
      extra_is = ap (λ (i : Handle Addr). i.extra) same;
    }

-- ---- where extras are stored

module _ {u : Uses} (p : IsPaired u) where
  index_is : (q m : ℕ) → extra_index u q ≡ Some m
      → (d : ℕ) × ((get u.extras (q / ROWS) ≡ Some d) × (m ≡ d * ROWS + q % ROWS))
  index_is q m is =
      elim (cases_option (get u.extras (q / ROWS))) [
        | inl none ↦ let no : None ≡ Some m =
            sym (ap (λ o. extra_index_in o (q % ROWS)) none) ∙ is in absurd (cc)
        | inr some ↦ let here : Some (some.0 * ROWS + q % ROWS) ≡ Some m =
            sym (ap (λ o. extra_index_in o (q % ROWS)) some.1) ∙ is in (some.0, (some.1, cc))
      ]

  pub index_within : (q m : ℕ) → extra_index u q ≡ Some m → m < ROWS * (u.table.blocks + 1)
  index_within q m is =
      let at : (d : ℕ) × ((get u.extras (q / ROWS) ≡ Some d) × (m ≡ d * ROWS + q % ROWS)) = index_is q m is in
      omega (arith, at.1.1, p.within (q / ROWS) at.0 at.1.0)

  -- two slots have their extras at two indices
  index_apart : (q s m : ℕ) → extra_index u q ≡ Some m → extra_index u s ≡ Some m → q ≡ s
  index_apart q s m is is' =
      let a : (d : ℕ) × ((get u.extras (q / ROWS) ≡ Some d) × (m ≡ d * ROWS + q % ROWS)) = index_is q m is in
      let b : (d : ℕ) × ((get u.extras (s / ROWS) ≡ Some d) × (m ≡ d * ROWS + s % ROWS)) = index_is s m is' in
      let same : a.0 ≡ b.0 = omega (arith, a.1.1, b.1.1) in
      let block : q / ROWS ≡ s / ROWS = p.apart (q / ROWS) (s / ROWS) b.0 (a.1.0 ∙ ap Some same) b.1.0 in
      omega (arith, a.1.1, b.1.1, block)

  -- a write of the extra of a slot leaves those of others
  module _ (slot : ℕ) (extras : List (Extra Addr)) (e : Extra Addr) where
    at_other : (o w : Option ℕ) → ((m : ℕ) → o ≡ Some m → w ≡ Some m → ⊥)
        → extra_at (with_extra extras o e) w ≡ extra_at extras w
    at_other o None away = refl
    at_other None (Some m) away = refl
    at_other (Some n) (Some m) away =
        get_or-set_other extras n m e extra.Nothing (λ same. away n refl (ap Some same))

    pub extra_other : (q : ℕ) → q ≢ slot → extra_at (with_extra extras (extra_index u slot) e)
        (extra_index u q) ≡ extra_at extras (extra_index u q)
    extra_other q apart = at_other (extra_index u slot) (extra_index u q)
        (λ m is is'. apart (index_apart q slot m is' is))

    at_same : (o : Option ℕ) (m : ℕ) → o ≡ Some m → m < length extras → extra_at (with_extra extras o e) o ≡ e
    at_same None m is lt = absurd (cc)
    at_same (Some n) m is lt =
        let same : n ≡ m = cc in get_or-set_same extras n e extra.Nothing (omega arith)

    -- the extra that was written, or nothing where the kind has no extra data
    pub extra_same : (k : Kind) → get u.table.uses (slot / ROWS) ≡ Some (handles_of k)
        → ROWS * (u.table.blocks + 1) ≤ length extras → fits k (extra_of e) ≡ true
        → extra_of (extra_at (with_extra extras (extra_index u slot) e) (extra_index u slot)) ≡ extra_of e
    extra_same k in_block room fitting =
        elim (cases_option (get u.extras (slot / ROWS))) [
          | inl none ↦
              ap (λ o. extra_of (extra_at (with_extra extras (extra_index_in o (slot % ROWS)) e)
              (extra_index_in o (slot % ROWS)))) none
              ∙ sym (single_nothing k (extra_of e)
              (sym (p.paired (slot / ROWS) k in_block) ∙ ap is_some none) fitting)
          | inr some ↦
              let at : extra_index u slot ≡ Some (some.0 * ROWS + slot % ROWS) =
              ap (λ o. extra_index_in o (slot % ROWS)) some.1 in
              ap extra_of (at_same (extra_index u slot) (some.0 * ROWS + slot % ROWS) at
              (omega (arith, index_within slot _ at, room)))
        ]

pub length-with : (extras : List (Extra Addr)) (e : Extra Addr) (o : Option ℕ)
    → length (with_extra extras o e) ≡ length extras
length-with extras e None = refl
length-with extras e (Some m) = length-set extras m e

-- the extras of a vector that were lent for a write
pub extras_back : {extras given after : List (Extra Addr)} (ys : List (Extra Addr)) (e : Extra Addr)
    {n : ℕ} {o p : Option ℕ}
    → after ≡ with_extra given o e → given ≡ extras → o ≡ p → n ≡ length extras
    → take n (after ++ drop (length after) ys) ≡ with_extra extras p e
extras_back {extras} {given} {after} ys e {n} {o} {p} written lent index size =
    let is : after ≡ with_extra extras p e = written ∙ (λ i. with_extra (lent i) (index i) e) in
    take_at after (drop (length after) ys) n (ap length is ∙ length-with extras e p ∙ sym size) ∙ is

-- ---- the table

module _ {u : Uses} {v : Vectors} {live : ℕ} (inv : IsSeg u v live) where
  pub used : (b : ℕ) (k : BlockUse) → get u.table.uses b ≡ Some k → (1 ≤ b) × (b ≤ u.table.blocks)
  used b k is = inv.table.uses b (some_of _ _ is)

  -- a live row is in a block of the table
  pub row_within : (q : ℕ) (h : Handle Addr) → row_in u v q ≡ Some h
      → (ROWS ≤ q) × (q < ROWS + ROWS * u.table.blocks)
  row_within q h is =
      let range : (1 ≤ q / ROWS) × (q / ROWS ≤ u.table.blocks) =
      used (q / ROWS) _ (parts _ (live_bit v.masks q) _ _ h is).use_is in
      (omega (arith, range.0), omega (arith, range.1))

  pub row_is : (q : ℕ) → get (mapped ROWS (ROWS * u.table.blocks) (row_in u v)) q ≡ row_in u v q
  row_is q =
      elim (cases_within ROWS (ROWS * u.table.blocks) (row_in u v) q) [
        | inl is ↦ get-mapped ROWS (ROWS * u.table.blocks) (row_in u v) q is.0 is.1
        | inr out ↦ get-mapped_out ROWS (ROWS * u.table.blocks) (row_in u v) q out ∙ sym (nothing out)
      ]
    where
      nothing : (q < ROWS) ⊎ (ROWS + ROWS * u.table.blocks ≤ q) → row_in u v q ≡ None
      nothing out =
          elim (cases_option (row_in u v q)) [
            | inl none ↦ none
            | inr some ↦
                let range : (ROWS ≤ q) × (q < ROWS + ROWS * u.table.blocks) = row_within q some.0 some.1 in
                elim out [
                  | inl below ↦ absurd (omega (arith, range.0))
                  | inr past ↦ absurd (omega (arith, range.1))
                ]
          ]

  -- the live rows are exactly the set bits
  pub bit_is : (q : ℕ) → live_bit v.masks q ≡ cond (is_some (row_in u v q)) 1 0
  bit_is q =
      elim (cases_use (get u.table.uses (q / ROWS))) [
        | inl none ↦ inv.placed q (ap has_handles none)
            ∙ sym (ap (λ o. cond (is_some o) 1 0) (row-unused _ (live_bit v.masks q) _ _ none))
        | inr (inl extras) ↦ inv.placed q (ap has_handles extras)
            ∙ sym (ap (λ o. cond (is_some o) 1 0) (row-extras _ (live_bit v.masks q) _ _ extras))
        | inr (inr rows) ↦ row-bit _ rows.0 (live_bit v.masks q) _ _ rows.1
            (bit_at-lt (get_or v.masks (q / ROWS) 0) (q % ROWS))
      ]

  -- what users rely on
  pub is_table : IsTable (table_in u v)
  is_table = record {
    limit = inv.table.limit;
    rows = λ q h is.
        let here : row_in u v q ≡ Some h = sym (row_is q) ∙ is in
        let range : (ROWS ≤ q) × (q < ROWS + ROWS * u.table.blocks) = row_within q h here in
        record {
          block = (parts _ (live_bit v.masks q) _ _ h here).use_is;
          fits = inv.fitting q h here;
          low = range.0;
          high = omega (arith, range.1);
        };
    uses = inv.table.uses;
    given = inv.table.given;
    live = len-mapped_le ROWS (ROWS * u.table.blocks) (row_in u v);
    kinds = inv.table.kinds;
    once = inv.table.once;
    chained = inv.table.chained;
  }

  pub sound_table : {t : Table} → table_in u v ≡ t → IsTable t
  sound_table is = subst (λ (t : Table). IsTable t) is is_table

-- ---- writes

-- the vectors after a write of a slot's row
pub record IsWrite (u : Uses) (slot : ℕ) (v w : Vectors) : Type 0 where
  pub targets : length w.targets ≡ length v.targets
  pub extras : length w.extras ≡ length v.extras
  pub masks : length w.masks ≡ length v.masks
  pub bit_other : (q : ℕ) → q ≢ slot → live_bit w.masks q ≡ live_bit v.masks q
  pub target_other : (q : ℕ) → q ≢ slot → target_at w.targets q ≡ target_at v.targets q
  pub extra_other : (q : ℕ) → q ≢ slot
      → extra_at w.extras (extra_index u q) ≡ extra_at v.extras (extra_index u q)

-- a table whose extras are the same
pub view_back : (u : Uses) (targets : List (Option Addr)) (masks : List ℕ) {xs ys : List (Extra Addr)}
    → xs ≡ ys → table_in u (record { targets = targets; extras = xs; masks = masks })
    ≡ table_in u (record { targets = targets; extras = ys; masks = masks })
view_back u targets masks same =
    λ i. table_in u (record { targets = targets; extras = same i; masks = masks })

pub seg_back : {u : Uses} {targets : List (Option Addr)} {masks : List ℕ} {xs ys : List (Extra Addr)} {live : ℕ}
    → xs ≡ ys → IsSeg u (record { targets = targets; extras = ys; masks = masks }) live
    → IsSeg u (record { targets = targets; extras = xs; masks = masks }) live
seg_back {u} {targets} {masks} {xs} {ys} {live} same =
    subst (λ zs. IsSeg u (record { targets = targets; extras = zs; masks = masks }) live) (sym same)

-- a write of the bit of a slot
module _ (masks : List ℕ) (slot m : ℕ) (within : slot / ROWS < length masks)
    (others : (i : ℕ) → i ≢ slot % ROWS → bit_at m i ≡ bit_at (get_or masks (slot / ROWS) 0) i) where
  pub bit_same : live_bit (set masks (slot / ROWS) m) slot ≡ bit_at m (slot % ROWS)
  bit_same = ap (λ n. bit_at n (slot % ROWS)) (get_or-set_same masks (slot / ROWS) m 0 within)

  pub bit_other : (q : ℕ) → q ≢ slot → live_bit (set masks (slot / ROWS) m) q ≡ live_bit masks q
  bit_other q apart =
      elim (cases_eq (q / ROWS) (slot / ROWS)) [
        | inl same ↦
            ap (λ b. bit_at (get_or (set masks (slot / ROWS) m) b 0) (q % ROWS)) same
            ∙ ap (λ n. bit_at n (q % ROWS)) (get_or-set_same masks (slot / ROWS) m 0 within)
            ∙ others (q % ROWS) (λ row. apart (omega (arith, same, row)))
            ∙ sym (ap (λ b. bit_at (get_or masks b 0) (q % ROWS)) same)
        | inr block ↦ ap (λ n. bit_at n (q % ROWS))
            (get_or-set_other masks (slot / ROWS) (q / ROWS) m 0 block)
      ]
