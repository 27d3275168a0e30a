-- What private clauses alone cite.
use Rattle.std.specs.Prelude.{◌≡◌, ℕ, ◌+◌, ◌-◌, ◌<◌, ◌≤◌, List, [], length, ◌^◌, ◌&&◌, All, Bool, true, false, nat_lt, nat_le, slice_index, slice_index_or, ◌∷◌}
use Rattle.std.specs.FinSet.{contains}
use Rattle.std.specs.Int.{bit_at}
use Rattle.hd_model.specs.Table.{Table}
use Rattle.hd_tiers.specs.Sets.{NumberSet}
use Rattle.hd_ages.specs.{declared.due_rows.DueRows.DueRows, Word.age_in}
use Rattle.hd_ages.specs.Walk.{blocks_to_come, clumps_to_come, slots_to_come}

-- a walk moved on without reaching a row: no slot was skipped, each clump that it passed is a step, and fewer
-- blocks are still to come
pub record Advances (t : Table) (ages : List ℕ) (old new : DueRows) (before after : ℕ) : Type 0 where
  pub slots : slots_to_come t ages new ≡ slots_to_come t ages old
  pub steps : after + length (clumps_to_come t ages new) ≡ before + length (clumps_to_come t ages old)
  pub less : length (blocks_to_come t new) < length (blocks_to_come t old)

-- nothing is left to visit
pub record IsOver (t : Table) (ages : List ℕ) (w : DueRows) : Type 0 where
  pub slots : slots_to_come t ages w ≡ []
  pub clumps : clumps_to_come t ages w ≡ []

-- ---- four ages as one word. Bit c is set if clump c is of age 1 or more, and bit c + 4 if it is of age 2. This
-- project's own format.

-- the ages of the four clumps of a word
abbrev pub ages_in : ℕ → List ℕ
ages_in word = age_in word 0 ∷ age_in word 1 ∷ age_in word 2 ∷ age_in word 3 ∷ []

-- a clump of age 2 is of age 1 or more
abbrev pub is_word : ℕ → Bool
is_word word =
    nat_lt word (2 ^ 8)
    && (nat_le (bit_at word 4) (bit_at word 0)
    && (nat_le (bit_at word 5) (bit_at word 1)
    && (nat_le (bit_at word 6) (bit_at word 2) && nat_le (bit_at word 7) (bit_at word 3))))

pub record IsWord (word : ℕ) : Type 0 where
  pub holds : is_word word ≡ true

-- ---- the blocks with young clumps

-- a set has each block with a clump of age k or less, and room for each block
pub record HasYoung (k : ℕ) (words : List ℕ) (s : NumberSet) : Type 0 where
  pub room : length words < s.room
  pub within : (b : ℕ) → contains s.members b ≡ true → (1 ≤ b) × (b ≤ length words)
  pub above : (b : ℕ) → 1 ≤ b → b ≤ length words → contains s.members b ≡ false
      → All (λ age. k < age) (ages_in (slice_index_or words (b - 1) 0))

-- the ages from one index on and below another are above n
abbrev pub AreAbove : ℕ → List ℕ → ℕ → ℕ → Type 0
AreAbove n ages from to = (i : ℕ) → from ≤ i → i < to → n < slice_index ages i

-- a set kept its room and what is below a block, and got nothing new
pub record IsCutFrom (first : ℕ) (old new : NumberSet) : Type 0 where
  pub room : new.room ≡ old.room
  pub below : (b : ℕ) → b < first → contains new.members b ≡ contains old.members b
  pub fewer : (b : ℕ) → contains new.members b ≡ true → contains old.members b ≡ true
