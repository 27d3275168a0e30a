-- What private clauses alone cite.
use Rattle.std.specs.Prelude.{◌≡◌, ℕ, ◌*◌, ◌/◌, ◌≤◌, true, max, List, length, slice_index_or}
use Rattle.std.specs.FinSet.{contains}
use Rattle.hd_mask.specs.declared.TheConstants.{BITS}
use Rattle.hd_tiers.specs.Sets.{NumberSet, HasSomeOf}

-- the mask of a block, 0 past the last
abbrev pub mask_of : List ℕ → ℕ → ℕ
mask_of masks block = slice_index_or masks block 0

-- masks with more of them, which have no bit set
pub record Lengthened (masks longer : List ℕ) (blocks : ℕ) : Type 0 where
  pub long : length longer ≡ max (length masks) blocks
  pub same : (block : ℕ) → mask_of longer block ≡ mask_of masks block

-- the second set has the blocks of the first that have a member
pub record IsTiered (numbers marked : NumberSet) : Type 0 where
  pub wide : numbers.room ≤ BITS * marked.room
  pub marks : (i : ℕ) → contains numbers.members i ≡ true → contains marked.members (i / BITS) ≡ true
  pub some : (block : ℕ) → contains marked.members block ≡ true → HasSomeOf numbers.members block
