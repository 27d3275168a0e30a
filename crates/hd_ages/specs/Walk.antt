-- Where a walk over the due rows of a kind is, and what it has still to visit.
use Rattle.std.specs.Prelude.{◌≡◌, ℕ, ◌+◌, ◌*◌, ◌≤◌, ◌==◌, List, [], ◌∷◌, ◌++◌, Option, Some, None, IfSome, cond, map, filter}
use Rattle.std.specs.List.{range_with_len}
use Rattle.std.specs.FinMap.{contains_key, get}
use Rattle.hd_mask.specs.Mask.{set_bits}
use Rattle.hd_model.specs.declared.data.Kind.{Kind}
use Rattle.hd_model.specs.declared.data.Slot.{Slot}
use Rattle.hd_model.specs.declared.limits.TheConstants.{HOST_BLOCKS, CLUMP, ROWS}
use Rattle.hd_model.specs.Ages.{due_clumps}
use Rattle.hd_model.specs.State.{handles_of}
use Rattle.hd_model.specs.Table.{Table, chain_of}
use Rattle.hd_ages.specs.declared.due_rows.DueRows.{DueRows}

-- the live slots of a clump, by its index among the ages, in rising order; and those of several clumps
unfoldable pub slots_in : Table → ℕ → List ℕ
slots_in t clump = filter (λ slot. contains_key t.rows slot) (range_with_len (CLUMP * clump + ROWS) CLUMP)

abbrev pub slots_of : Table → List ℕ → List ℕ
slots_of t [] = []
slots_of t (clump ∷ clumps) = slots_in t clump ++ slots_of t clumps

-- the slots that a walk over the rows of a kind visits, in their order
abbrev pub due_slots : Table → List ℕ → ℕ → Kind → List ℕ
due_slots t ages n kind = slots_of t (due_clumps ages n (chain_of t kind))

-- a chain from a block on, if there is one
abbrev pub from_block : ℕ → List ℕ → List ℕ
from_block b [] = []
from_block b (x ∷ xs) = cond (x == b) (x ∷ xs) (from_block b xs)

abbrev pub blocks_from : Option ℕ → List ℕ → List ℕ
blocks_from None chain = []
blocks_from (Some b) chain = from_block b chain

-- the blocks of the chain that a walk has still to come to
abbrev pub blocks_to_come : Table → DueRows → List ℕ
blocks_to_come t w = blocks_from w.next (chain_of t w.kind)

-- the clumps and the slots that a walk has still to visit: it visits the clumps of a block as it comes to it
unfoldable pub clumps_to_come : Table → List ℕ → DueRows → List ℕ
clumps_to_come t ages w = due_clumps ages w.n (blocks_to_come t w)

unfoldable pub slots_to_come : Table → List ℕ → DueRows → List ℕ
slots_to_come t ages w = map (λ row. w.first + row) (set_bits w.rows) ++ slots_of t (clumps_to_come t ages w)

-- a walk is at a block of the table, or before the first, and comes to one of its kind next, if to any
pub record IsOn (t : Table) (w : DueRows) : Type 0 where
  pub first : w.first ≤ ROWS * t.blocks
  pub next : IfSome w.next (λ b. get t.uses b ≡ Some (handles_of w.kind))
  pub few : t.blocks ≤ HOST_BLOCKS

-- no row was left to visit, and now neither a row nor a clump is
pub record Ends (t : Table) (ages : List ℕ) (old new : DueRows) : Type 0 where
  pub slots : slots_to_come t ages old ≡ []
  pub done : slots_to_come t ages new ≡ []
  pub clumps : clumps_to_come t ages new ≡ []

-- a slot was the first left to visit, and now those after it are
pub record Gives (t : Table) (ages : List ℕ) (old new : DueRows) (slot : Slot) : Type 0 where
  pub slots : slots_to_come t ages old ≡ slot.0 ∷ slots_to_come t ages new
