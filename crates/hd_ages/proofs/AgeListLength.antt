-- The number of ages is unchanged where one is lowered.
use Rattle.hd_ages.proofs.Basics.{List, clump_of, get_or, length, length-set, lowered, min, ℕ, ◌≡◌}

pub length-lowered : (ages : List ℕ) (slot g : ℕ) → length (lowered ages slot g) ≡ length ages
length-lowered ages slot g = length-set ages (clump_of slot) (min (get_or ages (clump_of slot) 0) g)
