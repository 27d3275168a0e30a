-- How a pool is tied to the state of a machine.
use Rattle.std.specs.Prelude.{◌≡◌, ℕ, ◌&&◌, ◌||◌, Bool, not, Option, is_some}
use Rattle.std.specs.{FinMap.get, FinSet.contains}
use Rattle.hd_model.specs.{declared.data.Kind.Kind, declared.data.Slot.Slot, WellFormed.IsWellFormed}
use Rattle.hd_model.specs.State.{Numbers, State, use_of, block_of}
use Rattle.hd_pool.specs.Pool.{FreeSlots}
use Rattle.hd_store.specs.Growth.{kind_in_use}

-- the kind of the handles of a block, if it has handles
abbrev pub kind_of_block : State → ℕ → Option Kind
kind_of_block s block = kind_in_use (use_of s block)

-- whether a slot is live: it has a handle, or the weak table holds it
abbrev pub is_live : State → ℕ → Bool
is_live s x = is_some (get s.handles x) || is_some (get s.weak x)

-- whether a slot is free: it is not live, and its block has handles of some kind
abbrev pub is_free : State → Slot → Bool
is_free s slot = not (is_live s slot.0) && is_some (kind_of_block s (block_of slot))

-- the pool has the blocks of handles with their kinds, and the slots that are free in the state
pub record IsTied (n : Numbers) (s : State) (p : FreeSlots) : Type 0 where
  pub blocks : p.blocks ≡ n.blocks
  pub kinds : (block : ℕ) → get p.kinds block ≡ kind_of_block s block
  pub free : (slot : Slot) → contains p.free slot.0 ≡ is_free s slot
  pub well_formed : IsWellFormed n s
