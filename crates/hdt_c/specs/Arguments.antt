-- What C passes, as a host takes it, and what a host returns, as C gets it.
use Rattle.std.specs.Prelude.{ℕ, ◌<◌, nat_lt, if◌then◌else◌, Option, Some, None}
use Rattle.hd_model.specs.declared.data.{Id.Id, Make.Make, Slot.Slot, Strength.Strength}
use Rattle.hd_model.specs.declared.data.Make.TheVariants as make
use Rattle.hd_model.specs.declared.data.Strength.TheVariants as strength
use Rattle.hd_model.specs.declared.handle.Extra.{Extra}
use Rattle.hd_model.specs.declared.handle.Extra.TheVariants as extra
use Rattle.hd_host.specs.declared.change.Change.{Change as Changed}
use Rattle.hdt_c.specs.declared.parts.Change.{Change}

-- the number of a strength
abbrev pub strength_number : Strength → ℕ
strength_number strength.Short = 0
strength_number strength.Long = 1
strength_number strength.Strong = 2
strength_number strength.Pinned = 3

-- what is made of a kind with an extra
pub data IsMake : Make → ℕ → ℕ → Type 0 where
  short : IsMake make.Short 0 0
  long : IsMake make.Long 1 0
  strong : IsMake make.Strong 2 0
  pinned : IsMake make.Pinned 3 0
  variable : (s : Strength) → IsMake (make.Variable s) 4 (strength_number s)
  counted : IsMake make.Counted 5 0
  dependent : (r : ℕ) → r < 16 → IsMake (make.Dependent r) 6 r

-- an identity, 0 for null
abbrev pub number_of : Option Id → ℕ
number_of None = 0
number_of (Some id) = id.0

-- a strength, or a count
abbrev pub extra_number : Extra Id → ℕ
extra_number extra.Nothing = 0
extra_number (extra.Strength s) = strength_number s
extra_number (extra.Secondary o) = 0
extra_number (extra.Count c) = c

-- the number of a field: all above 255 are those of no field
abbrev pub field_number : ℕ → ℕ
field_number i = if nat_lt i 256 then i else 255

-- the slot of a change, 0 for none
abbrev pub slot_number : Option Slot → ℕ
slot_number None = 0
slot_number (Some slot) = slot.0

-- the number of a block, 0 for none
abbrev pub block_number : Option ℕ → ℕ
block_number None = 0
block_number (Some block) = block

-- that of the block for extra data which was taken, or else was given back
abbrev pub data_number : Option ℕ → Option ℕ → ℕ
data_number None given_back = block_number given_back
data_number (Some block) given_back = block

-- a change, each part 0 for none, with the number of a turn
abbrev pub change_out : ℕ → Changed → Change
change_out turn c = record {
  slot = slot_number c.slot;
  block = block_number c.block;
  data_block = data_number c.data_block c.data_given_back;
  given_back = block_number c.given_back;
  turn = turn;
}
