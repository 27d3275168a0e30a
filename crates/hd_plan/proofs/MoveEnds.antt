-- The ends of the first moves, and what is found among moves of rising addresses.
use Rattle.hd_plan.proofs.Basics.{Addr, Bool, Fate, HasEnd, List, Move, ap, arith, both_ways, cases_lt, false, inl, inr, move_at, refl, same_address, subst, suc, true, zero, ℕ, ◌+◌, ◌<◌, ◌≡◌, ◌≤◌, ◌⊎◌, IsRising, None, Option, Some, [], cond, eq-eqb, length, nat_eq, ne_eqb, ◌∙◌, ◌∷◌, ◌≢◌}
use Rattle.hd_plan.specs.Layout.{find_move}

-- what holds of each number below one and of it
pub up_to : (P : ℕ → Type 0) (i : ℕ) → ((k : ℕ) → k < i → P k) → P i → (k : ℕ) → k ≤ i → P k
up_to P i before here k low = elim (cases_lt k i) [
  | inl below ↦ before k below
  | inr high ↦ (let same : i ≡ k = omega arith in subst P same here)
]

module _ {fate : Fate → Bool} {end : Move → Addr} {ms : List Move} {a : Addr} where
  pub ends_more : (i j : ℕ) → i ≤ j → HasEnd fate end ms i a → HasEnd fate end ms j a
  ends_more i j le e =
      record { at = e.at; before = (let low = e.before in omega arith); goes = e.goes; is = e.is }

  pub ends_here : (i : ℕ) → fate (move_at ms i).fate ≡ true → end (move_at ms i) ≡ a
      → HasEnd fate end ms (i + 1) a
  ends_here i goes is = record { at = i; before = omega arith; goes = goes; is = is }

  pub ends_cases : (i : ℕ) → HasEnd fate end ms (i + 1) a
      → HasEnd fate end ms i a ⊎ ((fate (move_at ms i).fate ≡ true) × (end (move_at ms i) ≡ a))
  ends_cases i e = elim (cases_lt e.at i) [
    | inl low ↦ inl (record { at = e.at; before = low; goes = e.goes; is = e.is })
    | inr high ↦
        let below = e.before in
        let same : e.at ≡ i = omega arith in
        inr (
          subst (λ k. fate (move_at ms k).fate ≡ true) same e.goes,
          subst (λ k. end (move_at ms k) ≡ a) same e.is,
        )
  ]

  -- a move of another fate has no such end
  pub ends_skip : (i : ℕ) → fate (move_at ms i).fate ≡ false → HasEnd fate end ms (i + 1) a
      → HasEnd fate end ms i a
  ends_skip i other e = elim (ends_cases i e) [
    | inl was ↦ was
    | inr new ↦ absurd (both_ways _ other new.0)
  ]

rising_rest : (m : Move) (ms : List Move) → IsRising (m ∷ ms) → IsRising ms
rising_rest m ms rising j k less within = rising (suc j) (suc k) (omega arith) (omega arith)

found_first : (m : Move) (o : Option Move) (x a : ℕ) → x ≡ a → cond (nat_eq x a) (Some m) o ≡ Some m
found_first m o x a same = ap (λ b. cond b (Some m) o) (eq-eqb x a same)

found_later : (m : Move) (o : Option Move) (x a : ℕ) → x ≢ a → cond (nat_eq x a) (Some m) o ≡ o
found_later m o x a apart = ap (λ b. cond b (Some m) o) (ne_eqb x a apart)

-- the k-th move is found by its address
pub find_at : (ms : List Move) (k : ℕ) → IsRising ms → k < length ms
    → find_move ms (move_at ms k).from ≡ Some (move_at ms k)
unfolding find_move
find_at [] k rising within = absurd (omega arith)
find_at (m ∷ ms) zero rising within = found_first m _ m.from.0 m.from.0 refl
find_at (m ∷ ms) (suc k) rising within =
    let low : m.from.0 < (move_at ms k).from.0 = rising 0 (suc k) (omega arith) within in
    found_later m (find_move ms (move_at ms k).from) m.from.0 (move_at ms k).from.0 (λ same. omega arith)
    ∙ find_at ms k (rising_rest m ms rising) (omega arith)

-- of an address that no move is of, none is found
pub find_none : (ms : List Move) (a : Addr) → ((k : ℕ) → k < length ms → (move_at ms k).from ≢ a)
    → find_move ms a ≡ None
unfolding find_move
find_none [] a none = refl
find_none (m ∷ ms) a none =
    found_later m (find_move ms a) m.from.0 a.0 (λ same. none 0 (omega arith) (same_address m.from a same))
    ∙ find_none ms a (λ k within. none (suc k) (omega arith))
