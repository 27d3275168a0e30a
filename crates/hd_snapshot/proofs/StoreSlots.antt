-- The slots of a store that have a handle or that the weak table holds are in blocks of the table.
use Rattle.std.proofs.Common.{IsSome, Some, ap, arith, is_some, ℕ, ◌*◌, ◌+◌, ◌-◌, ◌/◌, ◌%◌, ◌<◌, ◌≡◌, ◌≤◌}
use Rattle.std.specs.FinMap.{get}
use Rattle.hd_model.specs.declared.data.Id.{Id}
use Rattle.hd_model.specs.declared.limits.TheConstants.{CLUMP, CLUMPS, ROWS}
use Rattle.hd_model.specs.State.{Handle}
use Rattle.hd_store.specs.{Calls.IsSound, Store.Machine}

module _ {m : Machine} (sound : IsSound m) (slot : ℕ) where
  pub handle_block : (h : Handle Id) → get m.state.handles slot ≡ Some h
      → (1 ≤ slot / ROWS) × (slot / ROWS ≤ m.numbers.blocks)
  handle_block h is =
      sound.well_formed.handles.blocks (slot / ROWS) (ap is_some (sound.well_formed.handles.kinds slot h is))

  pub weak_block : IsSome (get m.state.weak slot) → (1 ≤ slot / ROWS) × (slot / ROWS ≤ m.numbers.blocks)
  weak_block held =
      sound.well_formed.handles.blocks (slot / ROWS) (ap is_some (sound.well_formed.weak.kinds slot held))

-- a slot of a block is below the end of the last block
pub slot_below : (slot blocks : ℕ) → slot / ROWS ≤ blocks → slot < ROWS * (blocks + 1)
slot_below slot blocks high = omega arith

-- the number of a slot's clump, by its block
pub clump_is : (slot : ℕ) → 1 ≤ slot / ROWS
    → CLUMPS * (slot / ROWS) + slot / CLUMP % CLUMPS - CLUMPS ≡ (slot - ROWS) / CLUMP
clump_is slot low = omega arith
