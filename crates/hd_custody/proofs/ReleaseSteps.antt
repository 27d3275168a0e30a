-- The steps of a `release` and of a `gather`.
use Rattle.hd_custody.proofs.Basics.{Acting, BLOCKS, CACHE, List, Made, Phase, ROWS, [], ap, arith, bit_or, cases_eq, cell_kind, cond, eq-eqb, found, held_times, inl, inr, into_mask, last, ne_eqb, next_phase, not, push, push_word, pushed_to, put_out, refl, restored, settle, suc, swapped, sweep, sweep_word, swept_to, sym, to_look_whole, to_push, to_sweep, went, with_slot, with_view, without, zero, ℕ, ◌%◌, ◌*◌, ◌++◌, ◌+◌, ◌-◌, ◌/◌, ◌<◌, ◌==◌, ◌^◌, ◌∙◌, ◌∷◌, ◌≡◌, ◌≢◌, ◌≤◌}
use Rattle.hd_custody.proofs.{HeldOnBlock.slot_leaves, HeldOnBlock.put_some, HeldSlots.held_times_kept, HeldSlots.held_times_dropped}
use Rattle.hd_custody.proofs.CallPhases.{due, zero_is, zero_not, less_is, made_none, one_step, seen_as, held_is}

-- what was not held is not held without a slot
pub still_none : (y x : ℕ) (held : List (ℕ × ℕ)) → held_times y held ≡ 0 → held_times y (without x held) ≡ 0
still_none y x held none = elim (cases_eq y x) [
  | inl same ↦ held_times_dropped (λ z. not (z == x)) y held (ap not (eq-eqb y x same))
  | inr far ↦ held_times_kept (λ z. not (z == x)) y held (ap not (ne_eqb y x far)) ∙ none
]

pub below_none : (y x k : ℕ) (held : List (ℕ × ℕ)) → held_times y ((x, k) ∷ held) ≡ 0 → held_times y held ≡ 0
below_none y x k held none = omega arith

-- a slot goes into its mask
pub slot_back : {W : Type 0} (a b : Acting W) (x i mask there : ℕ) → i ≡ x / ROWS → mask ≡ 2 ^ (x % ROWS)
    → b ≡ with_view (restored (BLOCKS + i) mask there a.view) a
    → b ≡ went (without x a.view.held) (into_mask x there ∷ []) a
slot_back a b x i mask there block row step =
    let at : (q : ℕ) → BLOCKS + q - BLOCKS ≡ q = λ q. omega arith in
    step ∙ ap (λ j. with_view (restored (BLOCKS + j) mask there a.view) a) block
    ∙ ap (λ m. with_view (restored (BLOCKS + x / ROWS) m there a.view) a) row
    ∙ ap (λ j. went (Rattle.hd_custody.specs.Counts.without_rows j (2 ^ (x % ROWS)) a.view.held)
    (into_mask x there ∷ []) a) (at (x / ROWS))
    ∙ ap (λ h. went h (into_mask x there ∷ []) a) (slot_leaves x a.view.held)

module _ {W : Type 0} {k blocks : ℕ} where
  pub push_step : (a b : Acting W) (n i x y : ℕ) → n < ROWS → x ≢ 0 → i ≡ push_word k n → cell_kind i ≡ k
      → b ≡ with_view (swapped i y x a.view) a
      → Made k blocks (to_push n x) (pushed_to (n + 1) y) (with_slot y (k + 1) (without x a.view.held)) a b
  push_step a b n i x y lt real e kind step =
      one_step (i, y, x)
      (step ∙ ap (λ q. went (with_slot y (q + 1) (put_out x a.view.held)) ((i, y, x) ∷ []) a) kind
      ∙ ap (λ h. went (with_slot y (k + 1) h) ((i, y, x) ∷ []) a) (put_some x a.view.held real))
      (ap (λ p. next_phase k blocks p (i, y, x)) (less_is n ROWS (push n x) (last x) lt)
      ∙ ap (λ j. next_phase k blocks (push n x) (j, y, x)) e ∙ due (push_word k n) y x _)

  pub sweep_step : (a b : Acting W) (n i y : ℕ) → n < CACHE → i ≡ sweep_word k n → cell_kind i ≡ k
      → b ≡ with_view (swapped i y 0 a.view) a
      → Made k blocks (to_sweep blocks n) (swept_to blocks n y) (with_slot y (k + 1) a.view.held) a b
  sweep_step a b n i y lt e kind step =
      one_step (i, y, 0) (step ∙ ap (λ q. went (with_slot y (q + 1) a.view.held) ((i, y, 0) ∷ []) a) kind)
      (ap (λ p. next_phase k blocks p (i, y, 0)) (less_is n CACHE (sweep n) (to_look_whole blocks 1) lt)
      ∙ ap (λ j. next_phase k blocks (sweep n) (j, y, 0)) e ∙ due (sweep_word k n) y 0 _)
