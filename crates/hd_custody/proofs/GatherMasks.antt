-- A `gather` that returns none shows no mask of all 64 rows with the kind loaded after it.
use Rattle.hd_custody.proofs.Basics.{BANK, BLOCKS, Bool, CACHE, Did, FIRST_MASK, List, Phase, ROWS, ShowsNone, [], again, again_whole, and_right, ap, arith, back, back_part, bank, bit_at, bit_at-lt, bit_at-zero, bit_at_or, bit_or, cases_eq, cond, cond-false, drain, drain_whole, every_row, false, follow, found, inl, inr, is_step, last, look, look_whole, missed, nat_lt, ne_eqb, next_phase, next_rows, not, probe, push, refl, rest, settle, suc, sweep, sym, to_bank, to_look_whole, to_sweep, true, wrong, zero, ℕ, ◌%◌, ◌&&◌, ◌+◌, ◌/◌, ◌<◌, ◌==◌, ◌^◌, ◌∙◌, ◌∷◌, ◌≡◌, ◌≢◌, ◌≤◌, ◌⊎◌}
use mathlib.Core.Option.{some, some-injective, some-ne-none}
use lib.ListN.{get_elem?}
use Rattle.hd_custody.specs.Traces.{sweep_word}
use Rattle.hd_custody.proofs.CallPhases.{due, same_is}

-- Two sets of phases that no step leaves: those of a `gather` and of each end (where g is true), and those
-- from which no steps lead to a miss (where it is false).
abbrev pub stays_in : Bool → Phase → Bool
stays_in g (probe n) = false
stays_in g (look b) = false
stays_in g (drain b) = false
stays_in g (again b m) = false
stays_in g (back b m) = false
stays_in g (bank b x i m) = not g
stays_in g (rest b x m) = not g
stays_in g (sweep n) = g
stays_in g (settle n x) = g
stays_in g (look_whole b) = g
stays_in g (drain_whole b) = g
stays_in g (again_whole b) = g
stays_in g (back_part b m) = g
stays_in g (push n x) = false
stays_in g (last x) = false
stays_in g (found x) = true
stays_in g missed = g
stays_in g wrong = true

module _ (g : Bool) where
  either_in : (b : Bool) (p q : Phase) → stays_in g p ≡ true → stays_in g q ≡ true
      → stays_in g (cond b p q) ≡ true
  either_in true p q on on' = on
  either_in false p q on on' = on'

  step_in : (t : Did) (i z : ℕ) (p : Phase) → stays_in g p ≡ true → stays_in g (is_step t i z p) ≡ true
  step_in t i z p on = either_in ((t.0 == i) && (t.2 == z)) p wrong on refl

  pub bank_in : (b x i m : ℕ) → not g ≡ true → stays_in g (to_bank b x i m) ≡ true
  bank_in b x i m on = either_in (m == 0) (found x) (cond (nat_lt i BANK) (bank b x i m) (rest b x m)) refl
      (either_in (nat_lt i BANK) (bank b x i m) (rest b x m) on on)

  whole_in : (blocks b : ℕ) → g ≡ true → stays_in g (to_look_whole blocks b) ≡ true
  whole_in blocks b on = either_in (nat_lt blocks b) missed (look_whole b) on on

  sweep_in : (blocks n : ℕ) → g ≡ true → stays_in g (to_sweep blocks n) ≡ true
  sweep_in blocks n on =
      either_in (nat_lt n CACHE) (sweep n) (to_look_whole blocks 1) on (whole_in blocks 1 on)

  pub next_in : (k blocks : ℕ) (p : Phase) (t : Did) → stays_in g p ≡ true
      → stays_in g (next_phase k blocks p t) ≡ true
  next_in k blocks (probe n) t on = cc
  next_in k blocks (look b) t on = cc
  next_in k blocks (drain b) t on = cc
  next_in k blocks (again b m) t on = cc
  next_in k blocks (back b m) t on = cc
  next_in k blocks (bank b x i m) t on =
      step_in t _ _ _ (bank_in b x (i + 1) (cond (t.1 == 0) (next_rows m) m) on)
  next_in k blocks (rest b x m) t on = step_in t _ _ (found x) refl
  next_in k blocks (sweep n) t on = step_in t _ _ _ (either_in (t.1 == 0) (to_sweep blocks (n + 1))
      (settle n t.1) (sweep_in blocks (n + 1) on) on)
  next_in k blocks (settle n x) t on = step_in t _ _ _ (sweep_in blocks (n + 1) on)
  next_in k blocks (look_whole b) t on = step_in t _ _ _ (either_in (t.1 == k + 1) (drain_whole b)
      (to_look_whole blocks (b + 1)) on (whole_in blocks (b + 1) on))
  next_in k blocks (drain_whole b) t on = step_in t _ _ _ (either_in (t.1 == 0) (to_look_whole blocks (b + 1))
      (cond (t.1 == every_row) (again_whole b) (back_part b t.1)) (whole_in blocks (b + 1) on)
      (either_in (t.1 == every_row) (again_whole b) (back_part b t.1) on on))
  next_in k blocks (again_whole b) t on =
      step_in t _ _ _ (either_in (t.1 == k + 1) (found b) (back_part b every_row) refl on)
  next_in k blocks (back_part b m) t on = step_in t _ _ _ (whole_in blocks (b + 1) on)
  next_in k blocks (push n x) t on = cc
  next_in k blocks (last x) t on = cc
  next_in k blocks (found x) t on = refl
  next_in k blocks missed t on = refl
  next_in k blocks wrong t on = refl

module _ (k blocks : ℕ) where
  -- the step at which all rows of block b came
  module _ (b : ℕ) (low : b < FIRST_MASK) where
    abbrev all : Did
    all = (BLOCKS + b, every_row, 0)

    filled : (m : ℕ) → bit_or every_row m ≢ 0
    filled m e =
        let one : bit_at every_row 0 ≡ 1 = refl in
        let o = bit_at_or every_row m 0 in
        let z = ap (λ n. bit_at n 0) e ∙ bit_at-zero 0 in
        let w = bit_at-lt m 0 in
        omega arith

    not_step : (i z : ℕ) (p : Phase) → z ≢ 0 → is_step all i z p ≡ wrong
    not_step i z p real =
        cond-false _ p wrong (and_right (BLOCKS + b == i) (0 == z) (ne_eqb 0 z (λ e. real (sym e))))

    other_word : (i z : ℕ) (p : Phase) → BLOCKS + b ≢ i → is_step all i z p ≡ wrong
    other_word i z p other = cond-false _ p wrong (ap (λ t. t && (0 == z)) (ne_eqb (BLOCKS + b) i other))

    Shows : Phase → Type 0
    Shows p = (next_phase k blocks p all ≡ wrong) ⊎ (next_phase k blocks p all ≡ again_whole b)

    shows : (p : Phase) → stays_in true p ≡ true → Shows p
    unfolding sweep_word Shows
    shows (probe n) on = cc
    shows (look c) on = cc
    shows (drain c) on = cc
    shows (again c m) on = cc
    shows (back c m) on = cc
    shows (bank c x i m) on = cc
    shows (rest c x m) on = cc
    shows (sweep n) on = inl (other_word (sweep_word k n) 0 (cond (every_row == 0) (to_sweep blocks (n + 1))
        (settle n every_row)) (λ e. omega arith))
    shows (settle n x) on = inl (not_step (BLOCKS + x / ROWS) (bit_or every_row (2 ^ (x % ROWS)))
        (to_sweep blocks (n + 1)) (filled (2 ^ (x % ROWS))))
    shows (look_whole c) on = inl (not_step c every_row (cond (every_row == k + 1) (drain_whole c)
        (to_look_whole blocks (c + 1))) (λ e. omega arith))
    shows (drain_whole c) on = elim (cases_eq b c) [
      | inl same ↦ inr (ap (λ d. next_phase k blocks (drain_whole d) all) (sym same)
          ∙ due (BLOCKS + b) every_row 0 (again_whole b))
      | inr far ↦ inl (other_word (BLOCKS + c) 0 (again_whole c) (λ e. far (omega arith)))
    ]
    shows (again_whole c) on = inl (not_step c every_row (cond (every_row == k + 1) (found c)
        (back_part c every_row)) (λ e. omega arith))
    shows (back_part c m) on = inl (not_step (BLOCKS + c) (bit_or every_row m) (to_look_whole blocks (c + 1))
        (filled m))
    shows (push n x) on = cc
    shows (last x) on = cc
    shows (found x) on = inl refl
    shows missed on = inl refl
    shows wrong on = inl refl

    wrong_missed : (ts : List Did) → follow k blocks wrong ts ≡ missed → ⊥
    wrong_missed [] e = cc
    wrong_missed (t ∷ ts) e = wrong_missed ts e

    found_missed : (ts : List Did) → follow k blocks (found b) ts ≡ missed → ⊥
    found_missed [] e = cc
    found_missed (t ∷ ts) e = wrong_missed ts e

    -- with the kind loaded after it
    at_first : (few : blocks ≤ BLOCKS) (p : Phase) (ts : List Did) → stays_in true p ≡ true
        → follow k blocks (next_phase k blocks p all) ts ≡ missed
        → get_elem? ts 0 ≡ some (b, k + 1, k + 1) → ⊥
    unfolding Shows
    at_first few p [] on ends next = some-ne-none (b, k + 1, k + 1) (sym next)
    at_first few p (t ∷ ts) on ends next = elim (shows p on) [
      | inl out ↦ wrong_missed (t ∷ ts) (ap (λ q. follow k blocks q (t ∷ ts)) (sym out) ∙ ends)
      | inr here ↦ found_missed ts (
          ap (λ q. follow k blocks q ts) (sym (
          ap (next_phase k blocks (again_whole b)) (some-injective t (b, k + 1, k + 1) next)
          ∙ due b (k + 1) (k + 1) (cond (k + 1 == k + 1) (found b) (back_part b every_row))
          ∙ same_is (k + 1) (k + 1) (found b) (back_part b every_row) refl))
          ∙ ap (λ q. follow k blocks q (t ∷ ts)) (sym here) ∙ ends)
    ]

    shown : (few : blocks ≤ BLOCKS) (c : ℕ) (p : Phase) (ts : List Did) → stays_in true p ≡ true
        → follow k blocks p ts ≡ missed
        → get_elem? ts c ≡ some all → get_elem? ts (suc c) ≡ some (b, k + 1, k + 1) → ⊥
    shown few c p [] on ends here next = some-ne-none all (sym here)
    shown few zero p (t ∷ ts) on ends here next =
        at_first few p ts on (ap (λ e. follow k blocks (next_phase k blocks p e) ts)
        (sym (some-injective t all here)) ∙ ends) next
    shown few (suc c) p (t ∷ ts) on ends here next =
        shown few c (next_phase k blocks p t) ts (next_in true k blocks p t on) ends here next

  pub shows_none : blocks ≤ BLOCKS → (ts : List Did) → follow k blocks (sweep 0) ts ≡ missed → ShowsNone k ts
  shows_none few ts ends c b real low here next = shown b low few c (sweep 0) ts refl ends here next
