-- Each slot is in exactly one place.
use Rattle.hd_custody.proofs.Basics.{BLOCKS, Bool, Custodied, FIRST_MASK, FIRST_QUICK, Ghosts, IsSlot, Numbers, Option, ROWS, State, View, WORDS, ap, arith, bit_at, bit_at-lt, cases_eq, cases_lt, cond, false, get_or, held_by, held_times, inl, inr, kind_word, length, named, one_if, refl, total, total_at, true, weight, ℕ, ◌%◌, ◌+◌, ◌/◌, ◌<◌, ◌∙◌, ◌≡◌, ◌≢◌, ◌≤◌}
use Rattle.hd_custody.specs.Laws.{Spot, mask, cell, seat, live, IsAt, HoldsIt, IsInOnePlace, EachSlotIsInOnePlace}
use Rattle.hd_custody.proofs.WordTotals.{hit, miss, total_member, total_two, total_some, total_at_member, total_at_two, total_at_some}
use Rattle.hd_custody.proofs.SlotSteps.{held_alive}
use Rattle.hd_custody.proofs.SlotWeights.{weight_low, weight_mask, weight_other, weight_cell, on_of}

module _ {W : Type 0} {m : Ghosts W} {numbers : Numbers} {s : State (Option W) (View W)}
    (rule : Custodied m numbers s) (x : ℕ) (real : IsSlot x) where
  abbrev word : ℕ → ℕ
  word i = get_or s.words i 0

  abbrev in_words : ℕ
  in_words = total_at (weight x) 0 s.words

  abbrev in_seats : ℕ
  in_seats = total (held_by x) s.views

  abbrev At : Spot → Type 0
  At p = IsAt m rule.world s x p

  -- ---- what a place weighs

  mask_weighs : At mask → weight x (BLOCKS + x / ROWS) (word (BLOCKS + x / ROWS)) ≡ 1
  mask_weighs at =
      weight_mask x (BLOCKS + x / ROWS) (word (BLOCKS + x / ROWS)) (omega (arith, real.0, real.1))
      (omega (arith, real.0, real.1)) (omega arith) ∙ at

  cell_weighs : (i : ℕ) → At (cell i) → weight x i (word i) ≡ 1
  cell_weighs i at = weight_cell x i (word i) at.0.0 ∙ hit (word i) x at.1

  mask_sums : At mask → 1 ≤ in_words
  mask_sums at =
      let one = mask_weighs at in
      let in_sum = total_at_member (weight x) s.words 0 (BLOCKS + x / ROWS) (BLOCKS + x / ROWS)
      (omega (arith, rule.wide, real.1)) (omega arith) in
      omega (arith, one, in_sum)

  cell_sums : (i : ℕ) → At (cell i) → 1 ≤ in_words
  cell_sums i at =
      let one = cell_weighs i at in
      let in_sum =
      total_at_member (weight x) s.words 0 i i (omega (arith, rule.wide, at.0.1)) (omega arith) in
      omega (arith, one, in_sum)

  seat_sums : (i : ℕ) (v : View W) → HoldsIt m rule.world s x i v → held_times x v.held ≤ in_seats
  seat_sums i v at =
      let member = total_member (held_by x) s.views i v at.0 in
      let is = held_alive x v at.1 in
      omega (arith, member, is)

  live_sums : At live → one_if (m.live rule.world x) ≡ 1
  live_sums at = ap one_if at

  sum : in_words + in_seats + one_if (m.live rule.world x) ≡ named (kind_word s.words (x / ROWS))
  sum = rule.slots.in_one_place x real.0

  least : (p : Spot) → At p → 1 ≤ in_words + in_seats + one_if (m.live rule.world x)
  least mask at = let a = mask_sums at in omega (arith, a)
  least (cell i) at = let a = cell_sums i at in omega (arith, a)
  least (seat i) at = let a = seat_sums i at.0 at.1 in omega (arith, a, at.1.2)
  least live at = let a = live_sums at in omega (arith, a)

  none : named (kind_word s.words (x / ROWS)) ≡ 0 → (p : Spot) → At p → ⊥
  none zero_is p at = let a = least p at in absurd (omega (arith, a, sum, zero_is))

  module _ (one : named (kind_word s.words (x / ROWS)) ≡ 1) where
    -- ---- no two

    two_words : (i j : ℕ) → i < WORDS → j < WORDS → i ≢ j → weight x i (word i) ≡ 1
        → weight x j (word j) ≡ 1 → ⊥
    two_words i j low low' apart a b =
        let both = total_at_two (weight x) s.words 0 i j i j (omega (arith, rule.wide, low))
        (omega (arith, rule.wide, low')) (omega arith) (omega arith) apart in
        absurd (omega (arith, both, a, b, sum, one))

    mask_and_cell : (i : ℕ) → At mask → At (cell i) → ⊥
    mask_and_cell i at at' = two_words (BLOCKS + x / ROWS) i (omega (arith, real.1)) at'.0.1
        (λ e. omega (arith, e, real.1, at'.0.0)) (mask_weighs at) (cell_weighs i at')

    same_cell : (i j : ℕ) → At (cell i) → At (cell j) → i ≡ j
    same_cell i j at at' = elim (cases_eq i j) [
      | inl same ↦ same
      | inr apart ↦ absurd (two_words i j at.0.1 at'.0.1 apart (cell_weighs i at) (cell_weighs j at'))
    ]

    same_seat : (i j : ℕ) → At (seat i) → At (seat j) → i ≡ j
    same_seat i j at at' = elim (cases_eq i j) [
      | inl same ↦ same
      | inr apart ↦ (
          let both = total_two (held_by x) s.views i j at.0 at'.0 at.1.0 at'.1.0 apart in
          let first = held_alive x at.0 at.1.1 in
          let second = held_alive x at'.0 at'.1.1 in
          absurd (omega (arith, both, first, second, at.1.2, at'.1.2, sum, one)))
    ]

    word_and_seat : (i : ℕ) → 1 ≤ in_words → At (seat i) → ⊥
    word_and_seat i a at = let b = seat_sums i at.0 at.1 in absurd (omega (arith, a, b, at.1.2, sum, one))

    word_and_live : 1 ≤ in_words → At live → ⊥
    word_and_live a at = let b = live_sums at in absurd (omega (arith, a, b, sum, one))

    seat_and_live : (i : ℕ) → At (seat i) → At live → ⊥
    seat_and_live i at at' =
        let a = seat_sums i at.0 at.1 in
        let b = live_sums at' in
        absurd (omega (arith, a, b, at.1.2, sum, one))

    only : (p : Spot) → At p → (q : Spot) → At q → q ≡ p
    only mask at mask at' = refl
    only mask at (cell j) at' = absurd (mask_and_cell j at at')
    only mask at (seat j) at' = absurd (word_and_seat j (mask_sums at) at')
    only mask at live at' = absurd (word_and_live (mask_sums at) at')
    only (cell i) at mask at' = absurd (mask_and_cell i at' at)
    only (cell i) at (cell j) at' = ap cell (same_cell j i at' at)
    only (cell i) at (seat j) at' = absurd (word_and_seat j (cell_sums i at) at')
    only (cell i) at live at' = absurd (word_and_live (cell_sums i at) at')
    only (seat i) at mask at' = absurd (word_and_seat i (mask_sums at') at)
    only (seat i) at (cell j) at' = absurd (word_and_seat i (cell_sums j at') at)
    only (seat i) at (seat j) at' = ap seat (same_seat j i at' at)
    only (seat i) at live at' = absurd (seat_and_live i at at')
    only live at mask at' = absurd (word_and_live (mask_sums at') at)
    only live at (cell j) at' = absurd (word_and_live (cell_sums j at') at)
    only live at (seat j) at' = absurd (seat_and_live j at' at)
    only live at live at' = refl

    -- ---- and one

    placed : (p : Spot) → At p → IsInOnePlace m rule.world s x
    placed p at = record {
      place = p;
      there = at;
      only = only p at;
      once = λ i v holds. (let most = seat_sums i v holds in omega (arith, most, holds.2, sum, one));
    }

    bit_is_one : (i : ℕ) → 1 ≤ bit_at (word i) (x % ROWS) → bit_at (word i) (x % ROWS) ≡ 1
    bit_is_one i le = let lt = bit_at-lt (word i) (x % ROWS) in omega (arith, le, lt)

    in_word : (i : ℕ) → i < length s.words → 1 ≤ weight x i (word i) → IsInOnePlace m rule.world s x
    in_word i within has = elim (cases_lt i FIRST_MASK) [
      | inl low ↦ absurd (let none = weight_low x i (word i) low in omega (arith, none, has))
      | inr le ↦ elim (cases_lt i FIRST_QUICK) [
        | inl lt ↦ elim (cases_eq (x / ROWS + BLOCKS) i) [
          | inl here ↦ placed mask (ap (λ j. bit_at (word j) (x % ROWS)) (omega (arith, here))
              ∙ bit_is_one i (let is = weight_mask x i (word i) le lt here in omega (arith, is, has)))
          | inr other ↦ absurd (let none = weight_other x i (word i) le lt other in omega (arith, none, has))
        ]
        | inr high ↦ elim (cases_eq (word i) x) [
          | inl same ↦ placed (cell i) ((high, omega (arith, within, rule.wide)), same)
          | inr other ↦ absurd (let is = weight_cell x i (word i) high in
              let none = miss (word i) x other in omega (arith, is, none, has))
        ]
      ]
    ]

    lives_where_held : (b : Bool) (n : ℕ) → 1 ≤ cond b 0 n → (b ≡ false) × (1 ≤ n)
    lives_where_held true n has = absurd (omega (arith, has))
    lives_where_held false n has = (refl, has)

    somewhere : IsInOnePlace m rule.world s x
    somewhere = elim (cases_lt 0 in_words) [
      | inl some_word ↦ (
          let at = total_at_some (weight x) s.words some_word in
          in_word at.0 at.1 at.2)
      | inr no_word ↦ elim (cases_lt 0 in_seats) [
        | inl some_seat ↦ (
            let at = total_some (held_by x) s.views some_seat in
            let holds = lives_where_held at.1.is_spent (held_times x at.1.held) at.3 in
            placed (seat at.0) (at.1, (at.2, holds.0, holds.1)))
        | inr no_seat ↦ placed live (on_of (m.live rule.world x) (omega (arith, no_word, no_seat, sum, one)))
      ]
    ]

pub each_slot_is_in_one_place : {W : Type 0} (m : Ghosts W) → EachSlotIsInOnePlace m
each_slot_is_in_one_place m numbers s rule x real =
    (somewhere rule x real, none rule x real)
