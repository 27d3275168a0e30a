-- An entry of the weak table, as callers of a store see it, in the words of the machine.
use Rattle.hd_model.specs.{declared.data.Id.Id, State.WeakEntry}
use Rattle.hd_store.specs.declared.info.EntryInfo.{EntryInfo}

-- the entry
abbrev pub entry_seen : EntryInfo → WeakEntry Id
entry_seen info = record { key = info.key; value = info.value }
