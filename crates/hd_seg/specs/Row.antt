-- Rows and uses of blocks as the program has them, and as the table's value has them.
use Rattle.std.specs.Prelude.{Option, Some, None}
use Rattle.hd_model.specs.declared.data.Addr.{Addr}
use Rattle.hd_model.specs.declared.data.Kind.{Kind}
use Rattle.hd_model.specs.State as state
use Rattle.hd_model.specs.State.{Handle, BlockUse, handles_of, extra_data}
use Rattle.hd_model.specs.Handles.{extra_of}
use Rattle.hd_model.specs.declared.handle.Extra.{Extra}
use Rattle.hd_model.specs.declared.handle.Extra.TheVariants.{Nothing, Strength, Secondary, Count}
use Rattle.hd_seg.specs.declared.row.Row.{Row}
use Rattle.hd_seg.specs.declared.row.BlockKind.{BlockKind}
use Rattle.hd_seg.specs.declared.row.BlockKind.TheVariants as block

-- an extra as the program has it
abbrev pub extra_from : state.Extra Addr → Extra Addr
extra_from state.nothing = Nothing
extra_from (state.strength s) = Strength s
extra_from (state.secondary o) = Secondary o
extra_from (state.count c) = Count c

-- the handle of a kind with a row's parts, and the row of a handle
abbrev pub handle_of : Kind → Row → Handle Addr
handle_of kind row = record { kind = kind; target = row.target; extra = extra_of row.extra }

abbrev pub row_of : Handle Addr → Row
row_of h = record { target = h.target; extra = extra_from h.extra }

-- what a block is used for, by the table's uses
abbrev pub block_kind_of : Option BlockUse → BlockKind
block_kind_of None = block.Unused
block_kind_of (Some (handles_of kind)) = block.Rows kind
block_kind_of (Some extra_data) = block.Extras
