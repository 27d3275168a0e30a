use Rattle.hd_gate.proofs.Basics.{Back, Grown, One, Two, Zero, inl, inr, ℕ, ◌≡◌, ◌≢◌, ◌⊎◌}
use Rattle.hd_gate.proofs.turns.grant_blocks.Goals as goal

has_grown : (g : Grown) → ((b : ℕ) × (g ≡ One b)) ⊎ (((b : ℕ) × (d : ℕ) × (g ≡ Two b d)) ⊎ ((b : ℕ) × (g
    ≡ Back b)))
    → g ≢ Zero
has_grown g (inl h) none = let e = h.1 in cc
has_grown g (inr (inl h)) none = let e = h.2 in cc
has_grown g (inr (inr h)) none = let e = h.1 in cc

pub grant-requires : goal.grant-requires
grant-requires c =
    let apart = has_grown c.args.grown c.in-One.is in
    record {
      seat = c.requires.seat;
      gate = c.requires.gate;
      grows = c.requires.grows apart;
      blocks = c.requires.blocks apart;
    }
