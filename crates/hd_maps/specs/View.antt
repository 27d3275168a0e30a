-- Entries and uses of blocks, as a state of the machine has them.
use Rattle.hd_model.specs.declared.data.Id.{Id}
use Rattle.hd_model.specs.State.{WeakEntry, BlockUse, handles_of, extra_data}
use Rattle.hd_maps.specs.declared.data.WeakEntry.{WeakEntry as Pair}
use Rattle.hd_maps.specs.declared.data.BlockUse.{BlockUse as Use}
use Rattle.hd_maps.specs.declared.data.BlockUse.TheVariants as for_use

abbrev pub entry_of : Pair → WeakEntry Id
entry_of e = record { key = e.key; value = e.value }

abbrev pub use_of : Use → BlockUse
use_of (for_use.HandlesOf kind) = handles_of kind
use_of for_use.ExtraData = extra_data
