-- Where a slot is and what a free gate means, in plain words; and the words and bounds of a table, as
-- numerals.
use Rattle.std.specs.Prelude.{◌≡◌, ◌⊎◌, ℕ, ◌+◌, ◌*◌, ◌<◌, ◌≤◌, false, true, List, [], ◌∷◌, Option, Some, slice_index}
use Rattle.std.specs.Int.{bit_at}
use mathlib.Core.Option.{some}
use lib.ListN.{get_elem?}
use Rattle.atomic_table.specs.Table.{State}
use Rattle.hd_model.specs.declared.data.Kind.{Kind}
use Rattle.hd_model.specs.declared.held.Held.{Ghosts}
use Rattle.hd_model.specs.Kinds.{kind_number}
use Rattle.hd_model.specs.Run.{part_of}
use Rattle.hd_model.specs.State.{Numbers}
use Rattle.hd_custody.specs.declared.view.View.{View}
use Rattle.hd_model.specs.declared.limits.TheConstants.{BLOCKS}
use Rattle.hd_custody.specs.declared.words.TheConstants.{GATE, BANK, CACHE, WORDS, EXTRA_DATA}
use Rattle.hd_custody.specs.Counts.{mask_word, quick_word, reserve_cell, free_cell, slot_block, slot_row, kind_word, named, held_times, IsCell, IsSlot, Has}
use Rattle.hd_custody.specs.Rule.{Custodied, Ended, HasNumber}
use Rattle.hd_custody.specs.Views.{IsPrefix}

-- a place where a slot may be
pub data Spot : Type 0 where
  -- a set bit of the mask of its block
  mask : Spot
  -- the whole of word i, a quick word or cell
  cell : ℕ → Spot
  -- among the slots held by the seat at index i of the seats
  seat : ℕ → Spot
  -- live in the world
  live : Spot

module _ {W : Type 0} (m : Ghosts W) where
  module _ (world : W) (s : State (Option W) (View W)) (x : ℕ) where
    -- the seat at index i knows v, has not ended, and holds the slot
    abbrev pub HoldsIt : ℕ → View W → Type 0
    HoldsIt i v = (get_elem? s.views i ≡ some v) × (v.is_spent ≡ false) × Has x v.held

    -- the slot is there
    abbrev pub IsAt : Spot → Type 0
    IsAt mask = bit_at (slice_index s.words (mask_word (slot_block x))) (slot_row x) ≡ 1
    IsAt (cell i) = IsCell i × (slice_index s.words i ≡ x)
    IsAt (seat i) = (v : View W) × HoldsIt i v
    IsAt live = m.live world x ≡ true

    -- it is in one place, and in no other: in one word at most, and held by one seat at most, once
    pub record IsInOnePlace : Type 0 where
      pub place : Spot
      pub there : IsAt place
      pub only : (other : Spot) → IsAt other → other ≡ place
      pub once : (i : ℕ) (v : View W) → HoldsIt i v → held_times x v.held ≡ 1

  -- Whenever the rule holds, each slot of a block of handles is in exactly one place, and a slot of any other
  -- block is in none.
  abbrev pub EachSlotIsInOnePlace : Type 0
  EachSlotIsInOnePlace =
      (numbers : Numbers) (s : State (Option W) (View W)) (rule : Custodied m numbers s) (x : ℕ) → IsSlot x
      → (named (kind_word s.words (slot_block x)) ≡ 1 → IsInOnePlace rule.world s x)
      × (named (kind_word s.words (slot_block x)) ≡ 0 → (place : Spot) → IsAt rule.world s x place → ⊥)

module _ {W : Type 0} (m : Ghosts W) where
  -- The table's slot has this world, and nothing else is out of it. The kind words are its kinds, its journal
  -- has of each seat and each ended part exactly that part, of nobody else an entry, and begins with what
  -- each has seen; and it is sound.
  pub record HasTheWorld (numbers : Numbers) (s : State (Option W) (View W)) (world : W) : Type 0 where
    pub stored : s.homes ≡ some (Some world) ∷ []
    pub sized : m.numbers world ≡ numbers
    pub kinds : (b : ℕ) → 0 < b → b < BLOCKS + 1 → kind_word s.words b ≡ m.kind world b
    pub parts : (i : ℕ) (v : View W) → get_elem? s.views i ≡ some v → v.is_spent ≡ false
        → (v.part ≡ part_of (m.journal world) v.number) × IsPrefix v.seen (m.journal world)
    pub ended_parts : (i : ℕ) (v : View W) → get_elem? s.views i ≡ some v → v.is_spent ≡ false
        → (k : ℕ) (e : Ended) → get_elem? v.ended k ≡ some e
        → (e.1 ≡ part_of (m.journal world) e.0) × IsPrefix e.2 (m.journal world)
    pub others : (n : ℕ) → (part_of (m.journal world) n ≡ []) ⊎ ((i : ℕ) × (v : View W)
        × (get_elem? s.views i ≡ some v) × HasNumber n v)
    pub sound : m.sound world

  -- Whenever the rule holds and the gate is free, the table's slot has such a world.
  abbrev pub AFreeGateHasTheWorld : Type 0
  AFreeGateHasTheWorld =
      (numbers : Numbers) (s : State (Option W) (View W)) → Custodied m numbers s
      → slice_index s.words GATE ≡ 0 → (world : W) × HasTheWorld numbers s world

-- The gate is word 0, the kind word of block b word b, its mask word 256 + b; the words of the kind with
-- number k begin at 513 + 127 k: the quick word, 63 reserve cells, 63 free cells.
pub record WordsAreNumbered : Type 0 where
  pub gate : GATE ≡ 0
  pub mask : (b : ℕ) → mask_word b ≡ 256 + b
  pub quick : (k : ℕ) → quick_word k ≡ 513 + 127 * k
  pub reserve : (k i : ℕ) → reserve_cell k i ≡ 513 + 127 * k + 1 + i
  pub free : (k i : ℕ) → free_cell k i ≡ 513 + 127 * k + 64 + i
  pub all : WORDS ≡ 1402

-- A kind word is 0, 1 to 7 for handles of the kind with the number before it, or 8 for extra data.
pub record KindWordsAreNumbered : Type 0 where
  pub none : named 0 ≡ 0
  pub handles : (k : Kind) → named (kind_number k + 1) ≡ 1
  pub few : (k : Kind) → kind_number k + 1 ≤ 7
  pub extra_data : EXTRA_DATA ≡ 8
  pub no_others : (w : ℕ) → 8 ≤ w → named w ≡ 0

-- A slot is 64 times its block and its row, of blocks 1 to 256. `allocate` makes at most 1,214 steps,
-- `release` 65, `gather` 1,278.
pub record BoundsAreNumbered : Type 0 where
  pub slots : (x : ℕ) → x ≡ 64 * slot_block x + slot_row x
  pub first : (x : ℕ) → IsSlot x → 64 ≤ x
  pub last : (x : ℕ) → IsSlot x → x < 16448
  pub allocate : CACHE + 4 * BLOCKS + BANK ≡ 1214
  pub release : 1 + BANK + 1 ≡ 65
  pub gather : 2 * CACHE + 4 * BLOCKS ≡ 1278
