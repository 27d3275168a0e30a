-- Where slots are: a step on a word of masks or cells, and what the rule states of a slot that is seen.
use Rattle.hd_custody.proofs.Basics.{BLOCKS, Belongs, Bool, Every, FIRST_MASK, FIRST_QUICK, Has, HasAs, List, ROWS, Slots, View, ap, arith, at_set, cases_eq, cell_kind, cond, eq-eqb, false, get_or, get_or-set_other, get_or-set_same, held_by, held_times, inl, inr, kind_word, length, named, ne_eqb, not, one_if, put_out, refl, set, subst, suc, sym, total, total_at, weight, with_slot, zero, ℕ, ◌*◌, ◌+◌, ◌/◌, ◌<◌, ◌==◌, ◌^◌, ◌∙◌, ◌≡◌, ◌≢◌, ◌≤◌, ◌⊎◌}
use mathlib.Core.Option.{some}
use lib.ListN.{get_elem?}
use Rattle.hd_custody.proofs.WordTotals.{miss, total_set, total_member, total_at_set, total_at_member}
use Rattle.hd_custody.proofs.HeldSlots.{held_times_kept, held_times_dropped, member_at, every_cons, every_filter}
use Rattle.hd_custody.proofs.SlotWeights.{kind_word_high, named_most, named_block, off_of, mask_empty}

pub held_alive : {W : Type 0} (x : ℕ) (v : View W) → v.is_spent ≡ false → held_by x v ≡ held_times x v.held
held_alive x v lives = ap (λ b. cond b 0 (held_times x v.held)) lives

pub belongs_same : (ws ws' : List ℕ) → ((b : ℕ) → kind_word ws' b ≡ kind_word ws b) → (p : ℕ × ℕ)
    → Belongs ws p → Belongs ws' p
belongs_same ws ws' e p h = (h.0, ap named (e (p.0 / ROWS)) ∙ h.1, λ ne. e (p.0 / ROWS) ∙ h.2 ne)

-- ---- slots that go through a cell

pub held_times_with_slot : (x y k : ℕ) (held : List (ℕ × ℕ)) → 0 < x
    → held_times x (with_slot y k held) ≡ one_if (y == x) + held_times x held
held_times_with_slot x zero k held real = let none = miss 0 x (λ e. omega arith) in omega arith
held_times_with_slot x (suc y) k held real = refl

pub held_times_put_other : (x n : ℕ) (held : List (ℕ × ℕ)) → x ≢ n
    → held_times x (put_out n held) ≡ held_times x held
held_times_put_other x zero held other = refl
held_times_put_other x (suc n) held other = held_times_kept (λ z. not (z == suc n)) x held
    (ap not (ne_eqb x (suc n) other))

pub held_times_put_same : (x n : ℕ) (held : List (ℕ × ℕ)) → 0 < x → x ≡ n → held_times x (put_out n held) ≡ 0
held_times_put_same x zero held real e = absurd (omega arith)
held_times_put_same x (suc n) held real e = held_times_dropped (λ z. not (z == suc n)) x held
    (ap not (eq-eqb x (suc n) e))

pub every_put_out : (P : ℕ × ℕ → Type 0) (n : ℕ) (held : List (ℕ × ℕ)) → Every P held
    → Every P (put_out n held)
every_put_out P zero held h = h
every_put_out P (suc n) held h = every_filter P (λ p. not (p.0 == suc n)) held h

pub every_with_slot : (P : ℕ × ℕ → Type 0) (y k : ℕ) (held : List (ℕ × ℕ)) → (y ≢ 0 → P (y, k)) → Every P held
    → Every P (with_slot y k held)
every_with_slot P zero k held new h = h
every_with_slot P (suc y) k held new h = every_cons P (suc y, k) held (new (λ e. omega arith)) h

module _ {W : Type 0} (live : ℕ → Bool) (words : List ℕ) (views : List (View W)) (s : Slots live words views)
    (id : ℕ) (v : View W) (there : get_elem? views id ≡ some v) (lives : v.is_spent ≡ false) where
  -- what is in one word, is held here and is live, together
  pub placed : (x i : ℕ) → ROWS ≤ x → i < length words
      → weight x i (get_or words i 0) + held_times x v.held + one_if (live x)
      ≤ named (kind_word words (x / ROWS))
  placed x i real lt =
      let one = s.in_one_place x real in
      let word = total_at_member (weight x) words 0 i i lt (omega arith) in
      let held = total_member (held_by x) views id v there in
      let is = held_alive x v lives in
      omega arith

  pub belongs : (p : ℕ × ℕ) → HasAs p v.held → Belongs words p
  belongs p h = s.held id v there lives h.0 p h.1

  -- a slot held is in a block of handles, and is held once
  pub has_named : (x : ℕ) → Has x v.held → (ROWS ≤ x) × (named (kind_word words (x / ROWS)) ≡ 1)
  has_named x has =
      let at = member_at x v.held has in
      let h = s.held id v there lives at.0 at.1 at.2 in
      subst (λ y. (ROWS ≤ y) × (named (kind_word words (y / ROWS)) ≡ 1)) at.3 (h.0, h.1)

  pub has_once : (x i : ℕ) → i < length words → Has x v.held
      → (held_times x v.held ≡ 1) × (weight x i (get_or words i 0) ≡ 0) × (live x ≡ false)
  has_once x i lt has =
      let h = has_named x has in
      let most = placed x i h.0 lt in
      let named_is = h.1 in
      let has' : 1 ≤ held_times x v.held = has in
      (omega arith, omega arith, off_of (live x) (omega arith))

  -- a slot that is in a word is not held and not live
  pub seen_once : (x i : ℕ) → ROWS ≤ x → i < length words → 1 ≤ weight x i (get_or words i 0)
      → (held_times x v.held ≡ 0) × (live x ≡ false) × (named (kind_word words (x / ROWS)) ≡ 1)
      × (x < (ROWS * (BLOCKS + 1)))
  seen_once x i real lt has =
      let most = placed x i real lt in
      let small = named_most (kind_word words (x / ROWS)) in
      let one : named (kind_word words (x / ROWS)) ≡ 1 = omega arith in
      let low = named_block words (x / ROWS) one in
      (omega arith, off_of (live x) (omega arith), one, omega arith)

  -- a step on a mask or cell
  module _ (w : View W) (lives' : w.is_spent ≡ false) (i n : ℕ) (low : FIRST_MASK ≤ i)
      (within : i < length words)
      (moves : (x : ℕ) → ROWS ≤ x
      → weight x i n + held_times x w.held ≡ weight x i (get_or words i 0) + held_times x
      v.held)
      (cell : FIRST_QUICK ≤ i → n ≢ 0 → (ROWS ≤ n) × (kind_word words (n / ROWS) ≡ cell_kind i + 1))
      (mask : i < FIRST_QUICK → n < (2 ^ ROWS)) (held : Every (Belongs words) w.held) where
    one_place : (x : ℕ) → ROWS ≤ x
        → total_at (weight x) 0 (set words i n) + total (held_by x) (set views id w) + one_if (live x) ≡ named
        (kind_word (set words i n) (x / ROWS))
    one_place x real =
        let one = s.in_one_place x real in
        let word = total_at_set (weight x) words 0 i i n within (omega arith) in
        let seats = total_set (held_by x) views id v w there in
        let was = held_alive x v lives in
        let now = held_alive x w lives' in
        let move = moves x real in
        let kind = ap named (kind_word_high words i n low (x / ROWS)) in
        omega arith

    cell_at : (j : ℕ) → FIRST_QUICK ≤ j → (j ≡ i) ⊎ (j ≢ i) → get_or (set words i n) j 0 ≢ 0
        → (ROWS ≤ get_or (set words i n) j 0)
        × (kind_word (set words i n) (get_or (set words i n) j 0 / ROWS) ≡
        cell_kind j + 1)
    cell_at j le (inl same) ne =
        let is : get_or (set words i n) j 0 ≡ n = ap (λ a. get_or (set words i n) a 0) same
        ∙ get_or-set_same words i n 0 within in
        let h = cell (subst (λ a. FIRST_QUICK ≤ a) same le) (λ e. ne (is ∙ e)) in
        subst (λ a. (ROWS ≤ a) × (kind_word (set words i n) (a / ROWS) ≡ cell_kind j + 1)) (sym is)
        (h.0, kind_word_high words i n low (n / ROWS) ∙ h.1 ∙ ap (λ a. cell_kind a + 1) (sym same))
    cell_at j le (inr other) ne =
        let is : get_or (set words i n) j 0 ≡ get_or words j 0 = get_or-set_other words i j n 0 other in
        let h = s.cells j le (λ e. ne (is ∙ e)) in
        subst (λ a. (ROWS ≤ a) × (kind_word (set words i n) (a / ROWS) ≡ cell_kind j + 1)) (sym is)
        (h.0, kind_word_high words i n low (get_or words j 0 / ROWS) ∙ h.1)

    mask_at : (j : ℕ) → FIRST_MASK ≤ j → j < FIRST_QUICK → (j ≡ i) ⊎ (j ≢ i)
        → get_or (set words i n) j 0 < (2 ^ ROWS)
    mask_at j le lt (inl same) =
        let is : get_or (set words i n) j 0 ≡ n = ap (λ a. get_or (set words i n) a 0) same
        ∙ get_or-set_same words i n 0 within in
        let h = mask (subst (λ a. a < FIRST_QUICK) same lt) in
        omega arith
    mask_at j le lt (inr other) =
        let is : get_or (set words i n) j 0 ≡ get_or words j 0 = get_or-set_other words i j n 0 other in
        let h = s.masks j le lt in
        omega arith

    held_at : (j : ℕ) (u : View W) → u.is_spent ≡ false → ((j ≡ id) × (w ≡ u))
        ⊎ ((j ≢ id) × (get_elem? views j ≡ some u)) → Every (Belongs (set words i n)) u.held
    held_at j u alive (inl here) c p e =
        belongs_same words (set words i n) (kind_word_high words i n low) p
        (held c p (ap (λ (z : View W). get_elem? z.held c) here.1 ∙ e))
    held_at j u alive (inr other) c p e =
        belongs_same words (set words i n) (kind_word_high words i n low) p (s.held j u other.1 alive c p e)

    pub slots_step : Slots live (set words i n) (set views id w)
    slots_step = record {
      in_one_place = one_place;
      cells = λ j le ne. cell_at j le (cases_eq j i) ne;
      held = λ j u e alive. held_at j u alive (at_set views id j w u e);
      masks = λ j le lt. mask_at j le lt (cases_eq j i);
      empty_masks = mask_empty (set words i n) (λ x. total (held_by x) (set views id w) + one_if (live x))
          (λ x real. (let one = one_place x real in omega arith)) (λ j le lt. mask_at j le lt (cases_eq j i));
    }
