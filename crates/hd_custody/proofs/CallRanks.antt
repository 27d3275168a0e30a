-- How many steps a call makes: each lowers the rank of the phase.
use Rattle.hd_custody.proofs.Basics.{BANK, BLOCKS, Bool, CACHE, Did, FIRST_QUICK, List, Phase, ROWS, [], again, again_whole, ap, arith, back, back_part, bank, bit_or, cond, drain, drain_whole, every_row, false, follow, found, inl, inr, is_step, last, length, look, look_whole, lowest, ltb-false, ltb-true, missed, nat_lt, next_phase, next_rows, probe, probe_word, push, push_word, refl, rest, settle, sweep, sweep_word, sym, to_bank, to_look, to_look_whole, to_probe, to_push, to_sweep, true, wrong, ℕ, ◌%◌, ◌&&◌, ◌*◌, ◌+◌, ◌-◌, ◌/◌, ◌==◌, ◌^◌, ◌∙◌, ◌∷◌, ◌≡◌, ◌≢◌, ◌≤◌, ◌⊎◌}

-- how many steps a call may still make
abbrev rank : Phase → ℕ
rank (probe n) = (2 * BANK - n) + (4 * BLOCKS + ROWS)
rank (look b) = 4 * (BLOCKS - b) + (ROWS + 3)
rank (drain b) = 4 * (BLOCKS - b) + (ROWS + 2)
rank (again b m) = 4 * (BLOCKS - b) + (ROWS + 1)
rank (back b m) = 4 * (BLOCKS - b) + ROWS
rank (bank b x i m) = (BANK - 1 - i) + 2
rank (rest b x m) = 1
rank (sweep n) = 2 * (2 * BANK - n) + (4 * BLOCKS + 2)
rank (settle n x) = 2 * (2 * BANK - n) + (4 * BLOCKS + 1)
rank (look_whole b) = 4 * (BLOCKS - b) + 4
rank (drain_whole b) = 4 * (BLOCKS - b) + 3
rank (again_whole b) = 4 * (BLOCKS - b) + 2
rank (back_part b m) = 4 * (BLOCKS - b) + 1
rank (push n x) = (BANK - n) + 2
rank (last x) = 1
rank (found x) = 0
rank missed = 0
rank wrong = 0

either_most : (b : Bool) (p q : Phase) (r : ℕ) → (b ≡ true → rank p ≤ r) → (b ≡ false → rank q ≤ r)
    → rank (cond b p q) ≤ r
either_most true p q r yes_most no_most = yes_most refl
either_most false p q r yes_most no_most = no_most refl

either_lower : (b : Bool) (p q : Phase) (r : ℕ) → rank p + 1 ≤ r → rank q + 1 ≤ r → rank (cond b p q) + 1 ≤ r
either_lower true p q r le le' = le
either_lower false p q r le le' = le'

Lower : ℕ → Phase → Type 0
Lower r p = (p ≡ wrong) ⊎ (rank p + 1 ≤ r)

lower : (b : Bool) (p : Phase) (r : ℕ) → rank p + 1 ≤ r → Lower r (cond b p wrong)
unfolding Lower
lower true p r le = inr le
lower false p r le = inl refl

lower_step : (t : Did) (i z : ℕ) (p : Phase) (r : ℕ) → rank p + 1 ≤ r → Lower r (is_step t i z p)
lower_step t i z p r le = lower ((t.0 == i) && (t.2 == z)) p r le

more_room : (a c : ℕ) → a ≤ ROWS → a + 1 ≤ c + (ROWS + 1)
more_room a c le = omega arith

out : (r : ℕ) → Lower r wrong
unfolding Lower
out r = inl refl

bank_next : (b x i m : ℕ) → rank (to_bank b x (i + 1) m) ≤ (BANK - 1 - i) + 1
bank_next b x i m =
    either_most (m == 0) _ _ _ (λ _. omega arith)
    (λ _. either_most (nat_lt (i + 1) BANK) _ _ _ (λ e. (let lt = ltb-true (i + 1) BANK e in omega arith))
    (λ _. omega arith))

bank_first : (b x m : ℕ) → rank (to_bank b x 0 m) ≤ ROWS
bank_first b x m = either_most (m == 0) _ _ _ (λ _. omega arith) (λ _. omega arith)

push_next : (n x : ℕ) → rank (to_push (n + 1) x) ≤ (BANK - n) + 1
push_next n x =
    either_most (nat_lt (n + 1) ROWS) _ _ _ (λ e. (let lt = ltb-true (n + 1) ROWS e in omega arith))
    (λ _. omega arith)

module _ (k blocks : ℕ) (few : blocks ≤ BLOCKS) where
  look_next : (b : ℕ) → rank (to_look blocks (b + 1)) ≤ 4 * (BLOCKS - b) + BANK
  look_next b = either_most (nat_lt blocks (b + 1)) _ _ _ (λ _. omega arith)
      (λ e. (let le = ltb-false blocks (b + 1) e in omega arith))

  whole_next : (b : ℕ) → rank (to_look_whole blocks (b + 1)) ≤ 4 * (BLOCKS - b)
  whole_next b = either_most (nat_lt blocks (b + 1)) _ _ _ (λ _. omega arith)
      (λ e. (let le = ltb-false blocks (b + 1) e in omega arith))

  probe_next : (n : ℕ) → rank (to_probe blocks (n + 1)) ≤ (2 * BANK - n) + (4 * BLOCKS + BANK)
  probe_next n =
      either_most (nat_lt (n + 1) CACHE) _ _ _ (λ e. (let lt = ltb-true (n + 1) CACHE e in omega arith))
      (λ _. either_most (nat_lt blocks 1) _ _ _ (λ _. omega arith) (λ _. omega arith))

  sweep_next : (n : ℕ) → rank (to_sweep blocks (n + 1)) ≤ 2 * (2 * BANK - n) + 4 * BLOCKS
  sweep_next n =
      either_most (nat_lt (n + 1) CACHE) _ _ _ (λ e. (let lt = ltb-true (n + 1) CACHE e in omega arith))
      (λ _. either_most (nat_lt blocks 1) _ _ _ (λ _. omega arith) (λ _. omega arith))

  falls : (p : Phase) (t : Did) → Lower (rank p) (next_phase k blocks p t)
  falls (probe n) t = lower_step t _ _ _ _ (either_lower (t.1 == 0) (to_probe blocks (n + 1)) (found t.1) _
      (let s = probe_next n in omega arith) (omega arith))
  falls (look b) t = lower_step t _ _ _ _ (either_lower (t.1 == k + 1) (drain b) (to_look blocks (b + 1)) _
      (omega arith) (let n = look_next b in omega arith))
  falls (drain b) t = lower_step t _ _ _ _ (either_lower (t.1 == 0) (to_look blocks (b + 1)) (again b t.1) _
      (let n = look_next b in omega arith) (omega arith))
  falls (again b m) t =
      let x : ℕ = ROWS * b + lowest m in
      lower_step t _ _ _ _ (either_lower (t.1 == k + 1) (to_bank b x 0 (next_rows m)) (back b m) _
      (more_room (rank (to_bank b x 0 (next_rows m))) (4 * (BLOCKS - b)) (bank_first b x (next_rows m)))
      (omega arith))
  falls (back b m) t = lower_step t _ _ _ _ (let n = look_next b in omega arith)
  falls (bank b x i m) t =
      lower_step t _ _ _ _ (let n = bank_next b x i (cond (t.1 == 0) (next_rows m) m) in omega arith)
  falls (rest b x m) t = lower_step t _ _ _ _ (omega arith)
  falls (sweep n) t = lower_step t _ _ _ _ (either_lower (t.1 == 0) (to_sweep blocks (n + 1)) (settle n t.1) _
      (let s = sweep_next n in omega arith) (omega arith))
  falls (settle n x) t = lower_step t _ _ _ _ (let s = sweep_next n in omega arith)
  falls (look_whole b) t = lower_step t _ _ _ _ (either_lower (t.1 == k + 1) (drain_whole b)
      (to_look_whole blocks (b + 1)) _ (omega arith) (let n = whole_next b in omega arith))
  falls (drain_whole b) t = lower_step t _ _ _ _ (either_lower (t.1 == 0) (to_look_whole blocks (b + 1))
      (cond (t.1 == every_row) (again_whole b) (back_part b t.1)) _ (let n = whole_next b in omega arith)
      (either_lower (t.1 == every_row) (again_whole b) (back_part b t.1) _ (omega arith) (omega arith)))
  falls (again_whole b) t =
      lower_step t _ _ _ _ (either_lower (t.1 == k + 1) (found b) (back_part b every_row) _
      (omega arith) (omega arith))
  falls (back_part b m) t = lower_step t _ _ _ _ (let n = whole_next b in omega arith)
  falls (push n x) t = lower_step t _ _ _ _ (either_lower (t.1 == 0) (found 0) (to_push (n + 1) t.1) _
      (omega arith) (let s = push_next n t.1 in omega arith))
  falls (last x) t = lower_step t _ _ _ _ (omega arith)
  falls (found x) t = out 0
  falls missed t = out 0
  falls wrong t = out 0

  pub stays_wrong : (ts : List Did) → follow k blocks wrong ts ≡ wrong
  stays_wrong [] = refl
  stays_wrong (t ∷ ts) = stays_wrong ts

  pub most_steps : (ts : List Did) (p q : Phase) → follow k blocks p ts ≡ q → q ≢ wrong → length ts ≤ rank p
  unfolding Lower
  most_steps [] p q e real = omega arith
  most_steps (t ∷ ts) p q e real = elim (falls p t) [
    | inl out ↦ absurd (real (sym e ∙ ap (λ x. follow k blocks x ts) out ∙ stays_wrong ts))
    | inr low ↦ (let r = most_steps ts (next_phase k blocks p t) q e real in omega arith)
  ]

  pub allocate_bound : (ts : List Did) (q : Phase) → follow k blocks (probe 0) ts ≡ q → q ≢ wrong
      → length ts ≤ CACHE + 4 * BLOCKS + BANK
  allocate_bound ts q e real = most_steps ts (probe 0) q e real

  pub gather_bound : (ts : List Did) (q : Phase) → follow k blocks (sweep 0) ts ≡ q → q ≢ wrong
      → length ts ≤ 2 * CACHE + 4 * BLOCKS
  gather_bound ts q e real = most_steps ts (sweep 0) q e real

  pub release_bound : (x : ℕ) (ts : List Did) (q : Phase) → follow k blocks (push 0 x) ts ≡ q → q ≢ wrong
      → length ts ≤ (ROWS + 1)
  release_bound x ts q e real = most_steps ts (push 0 x) q e real

pub found_real : (x : ℕ) → found x ≡ wrong → ⊥
found_real x e = cc

pub missed_real : missed ≡ wrong → ⊥
missed_real e = cc
