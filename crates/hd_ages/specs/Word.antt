-- Four ages as one word. Bit c is set if clump c is of age 1 or more, and bit c + 4 if it is of age 2. This
-- project's own format.
use Rattle.std.specs.Prelude.{ℕ, ◌+◌, List, [], ◌∷◌}
use Rattle.std.specs.Int.{bit_at}
use Rattle.hd_model.specs.declared.limits.TheConstants.{CLUMPS}

-- the age of a clump, and all four
abbrev pub age_in : ℕ → ℕ → ℕ
age_in word clump = bit_at word clump + bit_at word (clump + CLUMPS)

-- the ages of all blocks, in their order
abbrev pub ages_of : List ℕ → List ℕ
ages_of [] = []
ages_of (word ∷ words) = age_in word 0 ∷ age_in word 1 ∷ age_in word 2 ∷ age_in word 3 ∷ ages_of words
