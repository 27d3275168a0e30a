-- The definitions of this crate in words that none of them has.
use Rattle.std.specs.Prelude.{◌≡◌, ℕ, ◌+◌, ◌*◌, ◌<◌, true}
use Rattle.std.specs.FinSet.{contains}
use Rattle.hd_tiers.specs.Sets.{numbers_of}

-- block b has the numbers from 64 b on, 64 of them
abbrev pub BlocksAreThese : Type 0
BlocksAreThese = (block row : ℕ) → row < 64 → contains (numbers_of block) (64 * block + row) ≡ true
