-- What is so of a seat between two calls is so after each.
use Rattle.hd_custody.proofs.Basics.{FIRST_MASK, Ghosts, Has, IsSeated, IsSlot, Kinded, List, Me, Option, ROWS, Sorted, View, [], and_parts, ap, arith, bit_at, every_row, false, gave_back, granted, named, not, refl, rows, suc, sym, true, with_block, zero, ℕ, ◌&&◌, ◌*◌, ◌+◌, ◌/◌, ◌<◌, ◌==◌, ◌∙◌, ◌≡◌, ◌≢◌}
use Rattle.hd_custody.specs.Counts.{slot_count}
use Rattle.hd_custody.proofs.HeldSlots.{member_at, every_cons, every_append, every_filter, every_picks}

module _ {W : Type 0} (m : Ghosts W) (u w : W) (v : View W) (lives : v.is_spent ≡ false)
    (kinded : Kinded v.held) (sorted : Sorted m u w) where
  ended_kind : (r : ℕ) → r < slot_count → (m.live u (ROWS + r) && not (m.live w (ROWS + r))) ≡ true
      → IsSlot (ROWS + r) × (m.kind w ((ROWS + r) / ROWS) ≢ 0)
  unfolding slot_count
  ended_kind r low ends =
      let is = sorted (ROWS + r) (omega arith) (and_parts _ _ ends).0 in
      ((omega arith, omega (arith, low)), λ none. absurd (omega (arith, sym is ∙ ap named none)))

  pub left_seated : IsSeated (gave_back m u w v, [])
  left_seated = (
    lives,
    refl,
    every_append (λ p. IsSlot p.0 × (p.1 ≢ 0)) _ _ (every_filter (λ p. IsSlot p.0 × (p.1 ≢ 0))
        (λ p. not (m.live w p.0)) v.held kinded)
        (every_picks (λ p. IsSlot p.0 × (p.1 ≢ 0)) slot_count
        (λ r. m.live u (ROWS + r) && not (m.live w (ROWS + r))) ROWS (λ r. m.kind w ((ROWS + r) / ROWS))
        ended_kind),
  )

pub closed_kinded : (b : ℕ) (held : List (ℕ × ℕ)) → Kinded held
    → Kinded (Rattle.hd_custody.specs.Counts.without_block b held)
closed_kinded b held kinded = every_filter (λ p. IsSlot p.0 × (p.1 ≢ 0)) (λ p. not (p.0 / ROWS == b)) held
    kinded

-- the slots held with a whole block of a kind on top
pub block_kinded : (b k : ℕ) (held : List (ℕ × ℕ)) → b < FIRST_MASK → Kinded held
    → Kinded (with_block b (k + 1) held)
block_kinded zero k held low kinded = kinded
block_kinded (suc b) k held low kinded =
    every_append (λ p. IsSlot p.0 × (p.1 ≢ 0)) (rows (suc b) every_row (k + 1)) held
    (every_picks (λ p. IsSlot p.0 × (p.1 ≢ 0)) ROWS (λ r. bit_at every_row r == 1) (ROWS * suc b) (λ _. k + 1)
    (λ r lt on. ((omega arith, omega (arith, lt, low)), λ e. omega arith))) kinded

-- a block of which a slot is held is one of the 256
pub block_real : (b r : ℕ) (held : List (ℕ × ℕ)) → r < ROWS → Kinded held → Has (ROWS * b + r) held
    → (0 < b) × (b < FIRST_MASK)
block_real b r held lt kinded has =
    let at = member_at (ROWS * b + r) held has in
    let slot = (kinded at.0 at.1 at.2).0 in
    (omega (arith, slot.0, at.3, lt), omega (arith, slot.1, at.3))

-- a seat that gave a block a kind
pub granted_seated : {W : Type 0} (k b d : ℕ) (m : Me (Option W) (View W)) → 0 < b → b < FIRST_MASK
    → IsSeated m → IsSeated (granted k b d m.0, m.1)
granted_seated k b d m real low seated = (
  seated.0,
  seated.1,
  every_cons (λ p. IsSlot p.0 × (p.1 ≢ 0)) (ROWS * b, k + 1) m.0.held
      ((omega (arith, real), omega (arith, low)), λ none. absurd (omega (arith, none))) seated.2,
)
