-- The free slots of a kind, block by block: the rows that the mask of a block leaves.
use Rattle.hd_store.proofs.StoreWords.{BlockUse, Bool, Heap, IsFree, IsOfTable, IsSome, Kind, None, Option, Slot, Some, State, Table, ap, arith, block_of, cases_eq, cond, counts_named, extra_data, false, false≢true, filter, get, handle_at, handles_of, id_at, inl, inr, is_some, kind_number, length, option_map, option_or, pairs_passing, passing_from, passing_in, range_with_len, refl, rename_handle, sym, true, weak_handle, ℕ, ⊎_elim, ◌%◌, ◌*◌, ◌+◌, ◌/◌, ◌<◌, ◌^◌, ◌↔◌, ◌∙◌, ◌≡◌, ◌≢◌, ◌≤◌, ◌⊎◌}
use Rattle.std.proofs.lemmas.Bool.{cases_lt, eqb-true, eq-eqb}
use Rattle.std.specs.Prelude.{◌==◌}
use Rattle.std.specs.FinMap.{contains_key}
use Rattle.std.proofs.lemmas.List.FromFn.{get_or-range_with_len, length-range_with_len}
use Rattle.std.proofs.lemmas.Nat.Bits.{bit_at_not}
use Rattle.std.specs.Int.{bit_at, bit_not, w64}
use Rattle.hd_mask.specs.Mask.{set_bits}
use Rattle.hd_model.proofs.KindTests.{same_number}
use Rattle.hd_model.proofs.Members.{member_at}
use Rattle.hd_model.proofs.PropertyCounts.{counts_join, counts_like, counts_none}
use Rattle.hd_model.proofs.StepWrites.{same_slot}
use Rattle.hd_model.specs.Counting.{Counts}
use Rattle.hd_model.specs.declared.limits.TheConstants.{ROWS}
use Rattle.hd_seg.specs.{Given.HasNoneGiven, Given.IsNextGiven, Row.block_kind_of}
use Rattle.hd_seg.specs.declared.row.BlockKind.{BlockKind}
use Rattle.hd_seg.specs.declared.row.BlockKind.TheVariants as block
use Rattle.hd_store.proofs.IdentityReadings.{no_some}
use Rattle.hd_store.specs.Sizes.{IsFreeRow}

-- ---- what a block is used for

-- a block of a kind has that use, and one without handles has not
pub rows_is : (u : Option BlockUse) (k kind : Kind) {x y : ℕ} → x ≡ kind_number k → y ≡ kind_number kind
    → block.Rows k ≡ block_kind_of u → ((x == y) ≡ true) ↔ (u ≡ Some (handles_of kind))
rows_is None k kind x_is y_is is = absurd (cc is)
rows_is (Some extra_data) k kind x_is y_is is = absurd (cc is)
rows_is (Some (handles_of other)) k kind {x} {y} x_is y_is is =
    let own : k ≡ other = cc is in (
      λ e. ap (λ z. Some (handles_of z))
          (sym own ∙ same_number k kind (sym x_is ∙ eqb-true x y e ∙ y_is)),
      λ e.
          let same : other ≡ kind = cc e in
          eq-eqb x y (x_is ∙ ap kind_number (own ∙ same) ∙ sym y_is),
    )

pub no_rows_is : (u : Option BlockUse) (x : BlockKind) (kind : Kind) → x ≡ block_kind_of u
    → (x ≡ block.Unused) ⊎ (x ≡ block.Extras) → (false ≡ true) ↔ (u ≡ Some (handles_of kind))
no_rows_is u x kind is other = (
  λ e. absurd (false≢true e),
  λ some. elim other [
    | inl unused ↦ let no : block.Unused ≡ block.Rows kind = sym unused ∙ is ∙ ap block_kind_of some in cc
    | inr extras ↦ let no : block.Extras ≡ block.Rows kind = sym extras ∙ is ∙ ap block_kind_of some in cc
  ],
)

-- ---- the rows of one block

-- the set bits of a mask
bits_counted : (mask : ℕ) → Counts (λ i. (i < ROWS) × (bit_at mask i ≡ 1)) (length (set_bits mask))
unfolding set_bits
bits_counted mask =
    let test : ℕ → Bool = λ i. bit_at mask i == 1 in
    let rows = range_with_len 0 ROWS in
    let long = length-range_with_len 0 ROWS in
    record {
      members = filter test rows;
      apart = pairs_passing test (λ x y. x ≢ y) rows (λ i j d before within same. omega (
        arith,
        before,
        same,
        get_or-range_with_len 0 ROWS i d (omega (arith, long, before, within)),
        get_or-range_with_len 0 ROWS j d (omega (arith, long, within)),
      ));
      each = λ i c.
          let (inside, passes) = passing_from test rows i c in (
            omega (
              arith,
              inside.2,
              get_or-range_with_len 0 ROWS inside.0 i (omega (arith, long, inside.1)),
              long,
              inside.1,
            ),
            eqb-true (bit_at mask i) 1 passes,
          );
      all = λ i h. passing_in test rows i
          (member_at rows i 0 i (omega (arith, long, h.0)) (get_or-range_with_len 0 ROWS i 0 h.0 ∙ omega arith))
          (eq-eqb (bit_at mask i) 1 h.1);
      number = refl;
    }

-- a row is absent where its bit is clear
absent : {A : Type 0} (o : Option A) → cond {A = ℕ} (is_some o) 1 0 ≡ 0 → o ≡ None
absent None e = refl
absent (Some x) e = absurd (omega arith)

module _ (t : Table) (kind : Kind) (b mask : ℕ) (fits : mask < 2 ^ 64)
    (bits : (i : ℕ) → i < ROWS → bit_at mask i ≡ cond (contains_key t.rows (ROWS * b + i)) 1 0)
    (of_kind : get t.uses b ≡ Some (handles_of kind)) where
  pub free_rows : Counts (λ slot. IsFreeRow t kind slot × (block_of slot ≡ b)) (length (set_bits (bit_not w64 mask)))
  free_rows =
      let rest = bit_not w64 mask in
      let name : ℕ → Slot = λ i. record { 0 = ROWS * b + i } in
      counts_named name (λ i. (i < ROWS) × (bit_at rest i ≡ 1))
      (λ slot. IsFreeRow t kind slot × (block_of slot ≡ b)) (length (set_bits rest))
      (λ x y _ _ same. omega (arith, ap (λ (s : Slot). s.0) same))
      (λ i h.
      let here : (ROWS * b + i) / ROWS ≡ b = omega (arith, h.0) in (
        (
          absent (get t.rows (ROWS * b + i)) (omega (arith, h.1, bit_at_not w64 mask i fits h.0, bits i h.0)),
          ap (get t.uses) here ∙ of_kind,
        ),
        here,
      ))
      (λ slot h.
      let i = slot.0 % ROWS in
      let low : i < ROWS = omega arith in
      let at : ROWS * b + i ≡ slot.0 = omega (arith, h.1) in
      let clear = bits i low ∙ ap (λ n. cond (contains_key t.rows n) 1 0) at
      ∙ ap (λ o. cond (is_some o) 1 0) h.0.0 in
      (i, ((low, omega (arith, clear, bit_at_not w64 mask i fits low)), same_slot (name i) slot at)))
      (bits_counted rest)

-- a block of another use has none
pub no_rows : (t : Table) (kind : Kind) (b : ℕ) → (get t.uses b ≡ Some (handles_of kind) → ⊥)
    → Counts (λ slot. IsFreeRow t kind slot × (block_of slot ≡ b)) 0
no_rows t kind b other = counts_none (λ slot. IsFreeRow t kind slot × (block_of slot ≡ b))
    (λ slot h. other (ap (get t.uses) (sym h.1) ∙ h.0.1))

-- ---- from block to block

module _ (t : Table) (kind : Kind) where
  abbrev pub IsFreeBelow : ℕ → Slot → Type 0
  IsFreeBelow b slot = IsFreeRow t kind slot × (block_of slot < b)

  pub free_more : (b n m : ℕ) → Counts (IsFreeBelow b) n
      → Counts (λ slot. IsFreeRow t kind slot × (block_of slot ≡ b)) m → Counts (IsFreeBelow (b + 1)) (n + m)
  free_more b n m below here =
      let IsHere : Slot → Type 0 = λ slot. IsFreeRow t kind slot × (block_of slot ≡ b) in
      counts_like (λ slot. IsFreeBelow b slot ⊎ IsHere slot) (IsFreeBelow (b + 1)) (n + m)
      (λ slot. ⊎_elim (λ low. (low.0, omega (arith, low.1))) (λ at. (at.0, omega (arith, at.1))))
      (λ slot h. elim (cases_eq (block_of slot) b) [
        | inl same ↦ inr (h.0, same)
        | inr apart ↦ inl (h.0, omega (arith, h.1, apart))
      ])
      (counts_join (IsFreeBelow b) IsHere n m (λ slot low at. omega (arith, low.1, at.1)) below here)

  pub free_begins : ((b : ℕ) → IsSome (get t.uses b) → (1 ≤ b) × (b ≤ t.blocks)) → Counts (IsFreeBelow 1) 0
  free_begins within = counts_none (IsFreeBelow 1)
      (λ slot h. omega (arith, h.1, (within (block_of slot) (ap is_some h.0.1)).0))

  -- blocks without a use have none
  unused : (slot : Slot) → get t.uses (block_of slot) ≡ None → IsFreeRow t kind slot → ⊥
  unused slot none free = no_some (handles_of kind) (sym free.1 ∙ none)

  pub free_skip : (b next n : ℕ) → IsNextGiven t.uses b next → Counts (IsFreeBelow b) n
      → Counts (IsFreeBelow next) n
  free_skip b next n given = counts_like (IsFreeBelow b) (IsFreeBelow next) n
      (λ slot h. (h.0, omega (arith, h.1, given.low)))
      (λ slot h. elim (cases_lt (block_of slot) b) [
        | inl low ↦ (h.0, low)
        | inr high ↦ absurd (unused slot (given.least (block_of slot) high h.1) h.0)
      ])

  pub free_ends : (b n : ℕ) → HasNoneGiven t.uses b → Counts (IsFreeBelow b) n → Counts (IsFreeRow t kind) n
  free_ends b n none = counts_like (IsFreeBelow b) (IsFreeRow t kind) n (λ slot h. h.0)
      (λ slot h. elim (cases_lt (block_of slot) b) [
        | inl low ↦ (h, low)
        | inr high ↦ absurd (unused slot (none (block_of slot) high) h)
      ])

-- ---- in the state

neither : {A B : Type 0} (f : B → A) (a : Option A) (b : Option B) → option_or a (option_map f b) ≡ None
    → (a ≡ None) × (b ≡ None)
neither f None None e = (refl, refl)
neither f None (Some y) e = absurd (cc e)
neither f (Some x) b e = absurd (cc e)

none_under : {A B : Type 0} (f : A → B) (o : Option A) → option_map f o ≡ None → o ≡ None
none_under f None e = refl
none_under f (Some x) e = absurd (cc e)

module _ {s : State} {h : Heap} {t : Table} (of : IsOfTable s h t) (kind : Kind) where
  pub free_in_state : (n : ℕ) → Counts (IsFreeRow t kind) n → Counts (IsFree s kind) n
  free_in_state n = counts_like (IsFreeRow t kind) (IsFree s kind) n
      (λ slot free.
      let none = neither weak_handle (handle_at s slot) (get s.weak slot.0)
      (sym (of.rows slot.0) ∙ ap (option_map (rename_handle (id_at h))) free.0) in
      record {
        no_handle = none.0;
        not_weak = none.1;
        of_kind = ap (λ u. get u (block_of slot)) (sym of.uses) ∙ free.1;
      })
      (λ slot is. (
        none_under (rename_handle (id_at h)) (get t.rows slot.0) (of.rows slot.0
            ∙ (λ i. option_or (is.no_handle i) (option_map weak_handle (is.not_weak i)))),
        ap (λ u. get u (block_of slot)) of.uses ∙ is.of_kind,
      ))
