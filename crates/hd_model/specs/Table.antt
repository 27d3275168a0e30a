-- The table of handles as its users see it: rows by slot, blocks, and chains of blocks by kind; and the
-- finalization queue. Blocks of 64, their chains and their numbers are this project's own, after CoreCLR's
-- segments in outline.
use Rattle.std.specs.Prelude.{◌≡◌, ◌≢◌, ◌↔◌, ℕ, ◌+◌, ◌*◌, ◌/◌, ◌<◌, ◌≤◌, ◌==◌, not, Bool, true, false, List, [], ◌∷◌, ◌++◌, length, replicate, filter, slice_index_or, slice_set, Option, Some, None, IsSome, unwrap_or, Contains, AllPairs}
use Rattle.std.specs.FinMap.{FinMap, get, insert, remove, empty, len}
use Rattle.std.specs.Ordering.{nat_cmp}
use Rattle.hd_model.specs.Data.{Addr, Kind, Grown}
use Rattle.hd_model.specs.declared.data.Kind.TheVariants as kind
use Rattle.hd_model.specs.declared.data.Grown.TheVariants.{Zero, One, Two, Back}
use Rattle.hd_model.specs.declared.limits.TheConstants.{HOST_BLOCKS, KINDS, ROWS}
use Rattle.hd_model.specs.State.{Extra, nothing, strength, secondary, count, Handle, BlockUse, handles_of, extra_data}
use Rattle.hd_model.specs.Kinds.{kind_number, is_paired}
use Rattle.hd_model.specs.Scene.{Rows}
use Rattle.hd_model.specs.Step.{blocks_needed}

-- the live rows by the number of their slot, each with the kind of its block; for each kind, by its number,
-- the blocks of its handles in the order of their chain; the use of each block that has one; and the number
-- of blocks
pub record Table : Type 0 where
  pub rows : FinMap nat_cmp (Handle Addr)
  pub chains : List (List ℕ)
  pub uses : FinMap nat_cmp BlockUse
  pub blocks : ℕ

-- the row of a slot, if it is live
abbrev pub row_at : Table → Rows Addr
row_at t slot = get t.rows slot

-- the chain of a kind
abbrev pub chain_of : Table → Kind → List ℕ
chain_of t k = slice_index_or t.chains (kind_number k) []

-- the finalization queue: the addresses of the queued objects, first in first out, and the number of objects
-- that it has room for
pub record Queue : Type 0 where
  pub queued : List Addr
  pub room : ℕ

-- the table at the start: no block has a use
abbrev pub empty_table : ℕ → Table
empty_table blocks = record { rows = empty; chains = replicate KINDS []; uses = empty; blocks = blocks }

-- whether an extra is nothing, a strength, a count or a secondary
abbrev pub is_nothing : {N : Type 0} → Extra N → Bool
is_nothing nothing = true
is_nothing (strength _) = false
is_nothing (secondary _) = false
is_nothing (count _) = false

abbrev pub is_strength : {N : Type 0} → Extra N → Bool
is_strength nothing = false
is_strength (strength _) = true
is_strength (secondary _) = false
is_strength (count _) = false

abbrev pub is_count : {N : Type 0} → Extra N → Bool
is_count nothing = false
is_count (strength _) = false
is_count (secondary _) = false
is_count (count _) = true

abbrev pub is_secondary : {N : Type 0} → Extra N → Bool
is_secondary nothing = false
is_secondary (strength _) = false
is_secondary (secondary _) = true
is_secondary (count _) = false

-- whether an extra is one of a kind: a variable handle has a strength, a ref-counted one a count, a dependent
-- one a secondary, and any other has nothing (CoreCLR's extra info by handle type)
abbrev pub fits : {N : Type 0} → Kind → Extra N → Bool
fits kind.Short e = is_nothing e
fits kind.Long e = is_nothing e
fits kind.Strong e = is_nothing e
fits kind.Pinned e = is_nothing e
fits kind.Variable e = is_strength e
fits kind.Counted e = is_count e
fits kind.Dependent e = is_secondary e

-- what a use says: the kind of a block of handles, or Short for any other block; whether it is a block of
-- handles; whether an extra fits its kind; and whether its kind has no extra data, as only such a block is
-- given back
abbrev pub kind_in : Option BlockUse → Kind
kind_in None = kind.Short
kind_in (Some (handles_of k)) = k
kind_in (Some extra_data) = kind.Short

abbrev pub has_handles : Option BlockUse → Bool
has_handles None = false
has_handles (Some (handles_of k)) = true
has_handles (Some extra_data) = false

abbrev pub fits_in : {N : Type 0} → Option BlockUse → Extra N → Bool
fits_in None e = false
fits_in (Some (handles_of k)) e = fits k e
fits_in (Some extra_data) e = false

abbrev pub is_single : Option BlockUse → Bool
is_single None = false
is_single (Some (handles_of k)) = not (is_paired k)
is_single (Some extra_data) = false

-- the kind word of a block: 0 without a use, one more than the number of its kind where it has handles, and 8
-- where it has extra data
abbrev pub kind_word : Option BlockUse → ℕ
kind_word None = 0
kind_word (Some (handles_of k)) = kind_number k + 1
kind_word (Some extra_data) = 8

-- the kind of a block of handles
abbrev pub kind_at : Table → ℕ → Kind
kind_at t block = kind_in (get t.uses block)

-- the handle in a live slot
abbrev pub live_at : Table → ℕ → Handle Addr
live_at t slot = unwrap_or (get t.rows slot) (record { kind = kind.Short; target = None; extra = nothing })

-- the table with a handle in a slot, and without the handle
abbrev pub with_row : Table → ℕ → Handle Addr → Table
with_row t slot h = record t { rows = insert t.rows slot h }

abbrev pub without_row : Table → ℕ → Table
without_row t slot = record t { rows = remove t.rows slot }

-- the table with a block of handles of a kind at the end of its chain
abbrev pub with_block : Table → Kind → ℕ → Table
with_block t k block = record t {
  chains = slice_set t.chains (kind_number k) (chain_of t k ++ block ∷ []);
  uses = insert t.uses block (handles_of k);
}

-- the table with a data block
abbrev pub with_data : Table → ℕ → Table
with_data t block = record t { uses = insert t.uses block extra_data }

-- the table without a block of handles of a kind: it has no use, and the others keep their order in its chain
abbrev pub without_block : Table → Kind → ℕ → Table
without_block t k block = record t {
  chains = slice_set t.chains (kind_number k) (filter (λ b. not (b == block)) (chain_of t k));
  uses = remove t.uses block;
}

-- the least block from a number on that has no use
pub record IsLeastWithout (t : Table) (from block : ℕ) : Type 0 where
  pub low : from ≤ block
  pub high : block ≤ t.blocks
  pub unused : get t.uses block ≡ None
  pub least : (other : ℕ) → from ≤ other → other < block → IsSome (get t.uses other)

-- the blocks by which a table grows for a kind: the least without a use, and for a kind with extra data the
-- next one too
abbrev pub IsGrowth : Table → Kind → Grown → Type 0
IsGrowth t k Zero = ⊥
IsGrowth t k (One block) = (blocks_needed k ≡ 1) × IsLeastWithout t 1 block
IsGrowth t k (Two block other) = (blocks_needed k ≡ 2) × IsLeastWithout t 1 block
    × IsLeastWithout t (block + 1) other
IsGrowth t k (Back block) = ⊥

-- the table that grew so
abbrev pub grown_by : Table → Kind → Grown → Table
grown_by t k Zero = t
grown_by t k (One block) = with_block t k block
grown_by t k (Two block other) = with_data (with_block t k block) other
grown_by t k (Back block) = t

-- a live row is in a block of its kind and has an extra of that kind
pub record IsPlacedRow (t : Table) (slot : ℕ) (h : Handle Addr) : Type 0 where
  pub block : get t.uses (slot / ROWS) ≡ Some (handles_of h.kind)
  pub fits : fits h.kind h.extra ≡ true
  pub low : ROWS ≤ slot
  pub high : slot < ROWS * (t.blocks + 1)

-- what is true of every table: each live row is in a block of its kind and has an extra of that kind; a block
-- with a use is one of the table's; each chain has exactly the blocks of its kind, each once
pub record IsTable (t : Table) : Type 0 where
  pub limit : t.blocks ≤ HOST_BLOCKS
  pub rows : (slot : ℕ) (h : Handle Addr) → get t.rows slot ≡ Some h → IsPlacedRow t slot h
  pub uses : (block : ℕ) → IsSome (get t.uses block) → (1 ≤ block) × (block ≤ t.blocks)
  pub given : len t.uses ≤ t.blocks
  pub live : len t.rows ≤ ROWS * t.blocks
  pub kinds : length t.chains ≡ KINDS
  pub once : (k : Kind) → AllPairs (λ x y. x ≢ y) (chain_of t k)
  pub chained : (k : Kind) (block : ℕ)
      → Contains (chain_of t k) block ↔ (get t.uses block ≡ Some (handles_of k))
