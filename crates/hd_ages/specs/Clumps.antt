-- Clumps by their block, and what happens to the ages of one block.
use Rattle.std.specs.Prelude.{◌≡◌, ℕ, ◌+◌, ◌-◌, ◌*◌, ◌/◌, ◌%◌, List, ◌++◌, length, take, drop}
use Rattle.hd_model.specs.declared.limits.TheConstants.{CLUMP, CLUMPS, ROWS}
use Rattle.hd_model.specs.Ages.{grown}
use Rattle.hd_model.specs.Table.{Table}

-- an age for each clump of the table's blocks
abbrev pub CoversTable : List ℕ → Table → Type 0
CoversTable ages t = length ages ≡ CLUMPS * t.blocks

-- the index of a block's clump, from 0 to 3, in the list of ages
abbrev pub clump_at : ℕ → ℕ → ℕ
clump_at block clump = CLUMPS * block + clump - CLUMPS

-- a slot is one of the block's clump
pub record IsSlotOf (block clump slot : ℕ) : Type 0 where
  pub in_block : slot / ROWS ≡ block
  pub in_clump : slot % ROWS / CLUMP ≡ clump

-- the ages of a block, and all ages with others for one block
abbrev pub ages_at : ℕ → List ℕ → List ℕ
ages_at block ages = take CLUMPS (drop (CLUMPS * block - CLUMPS) ages)

abbrev pub with_ages : ℕ → List ℕ → List ℕ → List ℕ
with_ages block four ages = take (CLUMPS * block - CLUMPS) ages ++ four ++ drop (CLUMPS * block) ages

-- the ages after a collection of generation n has raised those of one block
abbrev pub grown_at : ℕ → ℕ → List ℕ → List ℕ
grown_at n block ages = with_ages block (grown n (ages_at block ages)) ages
