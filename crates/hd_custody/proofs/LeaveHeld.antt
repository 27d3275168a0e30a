-- The slots that a seat holds once it gave the gate back.
use Rattle.hd_custody.proofs.Basics.{Bool, Entered, Every, Follows, Ghosts, List, ROWS, View, [], ap, append-nil, arith, false, filter, gave_back, not, refl, slot_count, sym, took, true, ℕ, ◌&&◌, ◌++◌, ◌+◌, ◌/◌, ◌<◌, ◌∙◌, ◌∷◌, ◌≡◌, ◌≢◌, ◌≤◌, ◌⊎◌}
use Rattle.hd_custody.proofs.HeldOnBlock.{filter_stays, picks_none, both_off}

module _ {W : Type 0} (m : Ghosts W) (u w : W) (v : View W) where
  -- where the same slots are live as were, what is held stays
  pub none_ended : ((x : ℕ) → ROWS ≤ x → m.live w x ≡ m.live u x) → Every (λ p. m.live w p.0 ≡ false) v.held
      → (gave_back m u w v).held ≡ v.held
  none_ended same dead =
      ap (λ ps. filter (λ p. not (m.live w p.0)) v.held ++ ps)
      (picks_none slot_count (λ r. m.live u (ROWS + r) && not (m.live w (ROWS + r))) ROWS
      (λ r. m.kind w ((ROWS + r) / ROWS))
      (λ r lt. ap (λ b. m.live u (ROWS + r) && not b) (same (ROWS + r) (omega arith))
      ∙ both_off (m.live u (ROWS + r))))
      ∙ append-nil (filter (λ p. not (m.live w p.0)) v.held)
      ∙ filter_stays (λ p. not (m.live w p.0)) v.held (λ n p at. ap not (dead n p at))

-- a world that was not changed goes back as it was taken
pub unchanged : {W : Type 0} (m : Ghosts W) (v : View W) (w : W) → Entered m v w → Follows m w w (took m w v)
unchanged m v w entered = record {
  kinds = λ b real low. refl;
  sized = entered.sized;
  lives = λ x real on. Rattle.std.proofs.Common.inl on;
  goes_on = Rattle.std.proofs.Common.inl (refl, refl);
  sound = entered.sound;
}
