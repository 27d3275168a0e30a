-- What the calls that make steps on the words leave.
use Rattle.std.specs.Prelude.{◌≡◌, ℕ, suc, ◌+◌, ◌*◌, ◌<◌, ◌≤◌, List, ◌∷◌, ◌++◌, length, Option, Some, None}
use mathlib.Core.Option.{some}
use lib.ListN.{get_elem?}
use Rattle.hd_custody.specs.declared.view.View.{View}
use Rattle.hd_model.specs.declared.data.Slot.{Slot}
use Rattle.hd_model.specs.declared.limits.TheConstants.{BLOCKS}
use Rattle.hd_custody.specs.declared.words.TheConstants.{BANK, CACHE}
use Rattle.hd_custody.specs.Counts.{mask_word, rows, without}
use Rattle.hd_custody.specs.Views.{called}
use Rattle.hd_custody.specs.Traces.{Did, probe, sweep, push, found, follow, ending, every_row}

-- the slots held after an `allocate`
abbrev pub offered : ℕ → Option ℕ → List (ℕ × ℕ) → List (ℕ × ℕ)
offered k (Some x) held = (x, k + 1) ∷ held
offered k None held = held

-- the slots held after a `gather`
abbrev pub gathered : ℕ → Option ℕ → List (ℕ × ℕ) → List (ℕ × ℕ)
gathered k (Some b) held = rows b every_row (k + 1) ++ held
gathered k None held = held

-- no mask of all rows came with the kind loaded after it
abbrev pub ShowsNone : ℕ → List Did → Type 0
ShowsNone k trace =
    (c b : ℕ) → 0 < b → b < BLOCKS + 1 → get_elem? trace c ≡ some (mask_word b, every_row, 0)
    → get_elem? trace (suc c) ≡ some (b, k + 1, k + 1) → ⊥

-- the number of a slot
abbrev pub slot_number : Option Slot → Option ℕ
slot_number (Some slot) = Some slot.0
slot_number None = None

module _ {W : Type 0} (k blocks : ℕ) where
  -- An `allocate` of the kind with number k: the slot returned comes on top of those held, the steps are
  -- those that are due, and the trace is the next one. They are at most one for each word of the cache, four
  -- for each block, and one for each reserve cell that the rows of the last block are offered to: 1,214.
  pub record Allocates (answer : Option ℕ) (v w : View W) : Type 0 where
    pub view : w ≡ called (offered k answer v.held) w.trace v
    pub steps : follow k blocks (probe 0) w.trace ≡ ending answer
    pub bound : length w.trace ≤ CACHE + 4 * BLOCKS + BANK

  -- a `release` of slot x, in at most 65 steps: the quick word, the free cells, a mask
  pub record Releases (x : ℕ) (v w : View W) : Type 0 where
    pub view : w ≡ called (without x v.held) w.trace v
    pub steps : follow k blocks (push 0 x) w.trace ≡ found 0
    pub bound : length w.trace ≤ 1 + BANK + 1

  -- A `gather`, in at most 1,278 steps: two for each word of the cache, four for each block. Where it returns
  -- none, its trace shows no mask of all rows with the kind loaded after it.
  pub record Gathers (answer : Option ℕ) (v w : View W) : Type 0 where
    pub view : w ≡ called (gathered k answer v.held) w.trace v
    pub steps : follow k blocks (sweep 0) w.trace ≡ ending answer
    pub bound : length w.trace ≤ 2 * CACHE + 4 * BLOCKS
    pub none : answer ≡ None → ShowsNone k w.trace
