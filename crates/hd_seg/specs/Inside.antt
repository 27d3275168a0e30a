-- What private clauses alone cite.
use Rattle.std.specs.Prelude.{◌≡◌, ◌≢◌, ℕ, ◌+◌, ◌<◌, ◌≤◌, List, [], length, sum_by, slice_index_or, slice_set, Some, None, ◌*◌, ◌/◌, true, false, Option, is_none, is_some, AllPairs, Contains}
use Rattle.std.specs.FinMap.{len, get}
use Rattle.std.specs.FinSet.{FinSet, contains}
use Rattle.std.specs.Ordering.{nat_cmp}
use Rattle.hd_model.specs.{declared.data.Kind.Kind, Kinds.kind_number, Kinds.is_paired, declared.data.Addr.Addr}
use Rattle.hd_model.specs.declared.limits.TheConstants.{HOST_BLOCKS, KINDS, ROWS}
use Rattle.hd_model.specs.State.{handles_of, Handle, extra_data}
use Rattle.hd_model.specs.Table.{IsTable, fits, has_handles}
use Rattle.hd_model.specs.declared.handle.Extra.{Extra}
use Rattle.hd_tiers.specs.Sets.{NumberSet}
use Rattle.hd_seg.specs.{declared.block.Block.Block, Mapped.mapped}
use Rattle.hd_seg.specs.Blocks.{use_at, extras_at, Uses}
use Rattle.hd_seg.specs.Rows.{Vectors, live_bit, row_in}

-- ---- the blocks of a table as the program keeps them

-- some block from a number on is unused
pub record HasUnused (table : List Block) (from : ℕ) : Type 0 where
  pub number : ℕ
  pub low : from ≤ number
  pub high : number < length table
  pub unused : use_at table number ≡ None

-- a set has the numbers from 1 to `last`, and room for `most`
pub record HasNumbers (most last : ℕ) (s : NumberSet) : Type 0 where
  pub room : most < s.room
  pub has : (b : ℕ) → 1 ≤ b → b ≤ last → contains s.members b ≡ true
  pub within : (b : ℕ) → contains s.members b ≡ true → (1 ≤ b) × (b ≤ last)

-- a set has a member from a number on
pub record HasFrom (s : FinSet nat_cmp) (from : ℕ) : Type 0 where
  pub number : ℕ
  pub low : from ≤ number
  pub member : contains s number ≡ true

-- a set has exactly the unused blocks, and room for each block
pub record ListsUnused (number : ℕ) (table : List Block) (s : NumberSet) : Type 0 where
  pub room : number < s.room
  pub within : (b : ℕ) → contains s.members b ≡ true → (1 ≤ b) × (b ≤ number)
  pub each : (b : ℕ) → 1 ≤ b → b ≤ number → contains s.members b ≡ is_none (use_at table b)

-- a set got the numbers after `from` up to `to`
pub record HasAdded (from to : ℕ) (old new : NumberSet) : Type 0 where
  pub room : new.room ≡ old.room
  pub added : (b : ℕ) → from < b → b ≤ to → contains new.members b ≡ true
  pub low : (b : ℕ) → b ≤ from → contains new.members b ≡ contains old.members b
  pub high : (b : ℕ) → to < b → contains new.members b ≡ contains old.members b

-- block b has handles of a kind
pub record IsListed (number : ℕ) (table : List Block) (k : Kind) (b : ℕ) : Type 0 where
  pub low : 1 ≤ b
  pub high : b ≤ number
  pub use_is : use_at table b ≡ Some (handles_of k)

-- the chains have exactly the blocks of handles, each once
pub record IsLinked (number : ℕ) (table : List Block) (chains : List (List ℕ)) : Type 0 where
  pub kinds : length chains ≡ KINDS
  pub once : (k : Kind) → AllPairs (λ x y. x ≢ y) (slice_index_or chains (kind_number k) [])
  pub listed : (k : Kind) (b : ℕ) → Contains (slice_index_or chains (kind_number k) []) b
      → IsListed number table k b
  pub found : (k : Kind) (b : ℕ) → 1 ≤ b → b ≤ number → use_at table b ≡ Some (handles_of k)
      → Contains (slice_index_or chains (kind_number k) []) b

-- what is always true of the blocks; what is in no chain has no data block, and chains and data blocks together
-- have no more blocks than are in use
pub record IsBlocks (number given : ℕ) (table : List Block) (chains : List (List ℕ)) : Type 0 where
  pub limit : number ≤ HOST_BLOCKS
  pub size : length table ≡ number + 1
  pub counted : given ≡ len (mapped 1 number (use_at table))
  pub spare : sum_by length chains + len (mapped 1 number (extras_at table)) ≤ given
  pub linked : IsLinked number table chains
  pub plain : (b : ℕ) → has_handles (use_at table b) ≡ false → extras_at table b ≡ None

-- ---- where the rows of a table are stored: targets by slot, extras by data block and row, and a mask of the live
-- rows for each block.

-- the extras after a write to one that may be absent
abbrev pub with_extra : List (Extra Addr) → Option ℕ → Extra Addr → List (Extra Addr)
with_extra extras None e = extras
with_extra extras (Some q) e = slice_set extras q e

-- a block of handles has a data block exactly where its kind has extras, and no two have the same
pub record IsPaired (u : Uses) : Type 0 where
  pub paired : (b : ℕ) (k : Kind) → get u.table.uses b ≡ Some (handles_of k)
      → is_some (get u.extras b) ≡ is_paired k
  pub used : (b d : ℕ) → get u.extras b ≡ Some d → get u.table.uses d ≡ Some extra_data
  pub within : (b d : ℕ) → get u.extras b ≡ Some d → d ≤ u.table.blocks
  pub apart : (a b d : ℕ) → get u.extras a ≡ Some d → get u.extras b ≡ Some d → a ≡ b

-- what is always true of a table, whose vectors may have more than its blocks need: only blocks of handles have
-- a set bit, so the live rows are exactly the set bits; and a live row has a fitting extra
pub record IsSeg (u : Uses) (v : Vectors) (live : ℕ) : Type 0 where
  pub table : IsTable u.table
  pub targets : ROWS * (u.table.blocks + 1) ≤ length v.targets
  pub extras : ROWS * (u.table.blocks + 1) ≤ length v.extras
  pub masks : u.table.blocks + 1 ≤ length v.masks
  pub counted : live ≡ len (mapped ROWS (ROWS * u.table.blocks) (row_in u v))
  pub placed : (q : ℕ) → has_handles (get u.table.uses (q / ROWS)) ≡ false → live_bit v.masks q ≡ 0
  pub fitting : (slot : ℕ) (h : Handle Addr) → row_in u v slot ≡ Some h → fits h.kind h.extra ≡ true
  pub paired : IsPaired u
