-- Blocks that can be given back, of every kind, and what it comes to where the kind has extra data.
use Rattle.std.specs.Prelude.{◌≡◌, ◌≢◌, ℕ, ◌/◌, ◌≤◌, ◌==◌, not, None, Some}
use Rattle.std.specs.FinMap.{get, retain_keys}
use Rattle.hd_model.specs.{declared.data.Id.Id, declared.data.Kind.Kind, declared.data.Slot.Slot, declared.limits.TheConstants.ROWS}
use Rattle.hd_model.specs.State.{State, WeakEntry, block_of, extra_data, handle_at, handles_of, use_of, without_use}
use Rattle.hd_store.specs.Store.{Machine}

-- a slot has neither a handle nor an entry of the weak table: where its block has handles, it is free, or the
-- weak table holds it and it is idle
pub record HasNothing (s : State) (slot : Slot) : Type 0 where
  pub no_handle : handle_at s slot ≡ None
  pub no_entry : (e : WeakEntry Id) → get s.weak slot.0 ≢ Some (Some e)

-- so it is of each slot of a block
abbrev pub IsVacant : State → ℕ → Type 0
IsVacant s block = (slot : Slot) → block_of slot ≡ block → HasNothing s slot

-- a block of a kind is spare where each of its slots is free or, of dependent handles, idle in the weak table
pub record IsSpare (s : State) (kind : Kind) (block : ℕ) : Type 0 where
  pub of_kind : use_of s block ≡ Some (handles_of kind)
  pub vacant : IsVacant s block

-- the least such block of a kind, or none
pub record IsLeastSpare (s : State) (kind : Kind) (block : ℕ) : Type 0 where
  pub spare : IsSpare s kind block
  pub least : (other : ℕ) → IsSpare s kind other → block ≤ other

abbrev pub HasNoSpare : State → Kind → Type 0
HasNoSpare s kind = (block : ℕ) → ¬ (IsSpare s kind block)

-- the slots of a block are the weak table's no more
abbrev pub without_slots : State → ℕ → State
without_slots s block = record s { weak = retain_keys s.weak (λ slot. not (slot / ROWS == block)) }

-- a block and its data block have no use, and its slots are the weak table's no more
abbrev pub without_pair : State → ℕ → ℕ → State
without_pair s block extra = without_use (without_use (without_slots s block) extra) block

-- a block of a kind with extra data was given back with a data block, and nothing else differs
pub record GivesBackPair (old : Machine) (block extra : ℕ) (new : Machine) : Type 0 where
  pub extra_is : use_of old.state extra ≡ Some extra_data
  pub after : new ≡ record old { state = without_pair old.state block extra; table = new.table }
