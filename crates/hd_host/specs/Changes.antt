-- What a call did to slots and blocks, by the entry of its command.
use Rattle.std.specs.Prelude.{ℕ, zero, suc, Option, None, Some}
use Rattle.std.specs.Coded.{Coded}
use Rattle.hd_model.specs.{declared.data.Grown.Grown, declared.data.Slot.Slot}
use Rattle.hd_model.specs.declared.data.Grown.TheVariants.{Zero, One, Two, Back}
use Rattle.hd_host.specs.declared.change.Change.{Change}
use Rattle.hd_host.specs.contracts.change.Change as change_contract
use Rattle.hd_host.specs.declared.last.Short.{Short}
use Rattle.hd_host.specs.declared.last.Short.TheVariants as short

abbrev pub change_code : Coded Change
change_code = change_contract.the_row.coded

-- that of a call that neither gives nor frees a slot
abbrev pub no_change : Change
no_change = record {
  slot = None;
  block = None;
  data_block = None;
  given_back = None;
  data_given_back = None;
}

-- the slot of an entry, and the blocks that it took or gave back
abbrev pub change_by : Option Slot → Grown → Change
change_by slot Zero = record no_change { slot = slot }
change_by slot (One block) = record no_change { slot = slot; block = Some block }
change_by slot (Two block other) =
    record no_change { slot = slot; block = Some block; data_block = Some other }
change_by slot (Back block) = record no_change { slot = slot; given_back = Some block }

-- that of a call that gave a block back with the data block that it had
abbrev pub change_back : ℕ → ℕ → Change
change_back block extra = record no_change { given_back = Some block; data_given_back = Some extra }

-- a change in short, by its word
abbrev pub short_of : ℕ → Short
short_of zero = short.Nothing
short_of (suc zero) = short.Blocks
short_of (suc (suc slot)) = short.Slot (record { 0 = slot })

-- a change in short, in full: where blocks changed, it is what they last did
abbrev pub in_full : Short → Change → Change
in_full short.Nothing blocks = no_change
in_full (short.Slot slot) blocks = record no_change { slot = Some slot }
in_full short.Blocks blocks = blocks
