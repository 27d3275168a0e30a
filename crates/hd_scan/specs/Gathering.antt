-- The list of roots of a table: all of it, of one block, and of one slot.
use Rattle.std.specs.Prelude.{List}
use Rattle.std.specs.FinMap.{entries}
use Rattle.hd_model.specs.{declared.data.Addr.Addr, declared.data.Kind.Kind, declared.data.Slot.Slot, RootText.roots_in, Table.Table}
use Rattle.hd_scan.specs.declared.gathering.Root.{Root}

-- a root of a table
abbrev pub root_by : Slot → Kind → Addr → Root
root_by slot kind at = record { slot = slot; kind = kind; at = at }

-- the roots of a table, in rising slot
abbrev pub roots_of : Table → List Root
roots_of t = roots_in root_by (entries t.rows)
