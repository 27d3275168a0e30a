-- Where the rows of a table are stored: a block has 64 of them. The mask of a block says which are live. The
-- target of a slot is at the slot's number, and its extra at the same row index of the data block.
use Rattle.std.specs.Prelude.{ℕ, zero, suc, ◌+◌, ◌*◌, ◌/◌, ◌%◌, List, slice_index_or, Option, Some, None}
use Rattle.std.specs.{FinMap.get, Int.bit_at}
use Rattle.hd_model.specs.declared.data.Addr.{Addr}
use Rattle.hd_model.specs.declared.limits.TheConstants.{ROWS}
use Rattle.hd_model.specs.State.{Handle, BlockUse, handles_of, extra_data}
use Rattle.hd_model.specs.Table.{Table}
use Rattle.hd_model.specs.declared.handle.Extra.{Extra}
use Rattle.hd_model.specs.declared.handle.Extra.TheVariants.{Nothing}
use Rattle.hd_model.specs.Handles.{extra_of}
use Rattle.hd_seg.specs.Mapped.{mapped}
use Rattle.hd_seg.specs.Blocks.{Uses}

-- the targets by slot, the extras by data block and row, and the masks by block. What a target or an extra is
-- where the row is not live says nothing
pub record Vectors : Type 0 where
  pub targets : List (Option Addr)
  pub extras : List (Extra Addr)
  pub masks : List ℕ

-- the bit of a slot in the mask of its block, and its target
abbrev pub live_bit : List ℕ → ℕ → ℕ
live_bit masks slot = bit_at (slice_index_or masks (slot / ROWS) 0) (slot % ROWS)

abbrev pub target_at : List (Option Addr) → ℕ → Option Addr
target_at targets slot = slice_index_or targets slot None

-- an extra by its index, which a row without a data block has not
abbrev pub extra_at : List (Extra Addr) → Option ℕ → Extra Addr
extra_at extras None = Nothing
extra_at extras (Some q) = slice_index_or extras q Nothing

-- the index of the extra of row i, by the data block
abbrev pub extra_index_in : Option ℕ → ℕ → Option ℕ
extra_index_in None i = None
extra_index_in (Some d) i = Some (d * ROWS + i)

-- the index of the extra of a slot's row
abbrev pub extra_index : Uses → ℕ → Option ℕ
extra_index u slot = extra_index_in (get u.extras (slot / ROWS)) (slot % ROWS)

-- the handle of a row, if its bit is set, by the use of its block, its target and its extra
abbrev pub row_by : Option BlockUse → ℕ → Option Addr → Extra Addr → Option (Handle Addr)
row_by None n t x = None
row_by (Some extra_data) n t x = None
row_by (Some (handles_of k)) zero t x = None
row_by (Some (handles_of k)) (suc _) t x = Some (record { kind = k; target = t; extra = extra_of x })

abbrev pub row_in : Uses → Vectors → ℕ → Option (Handle Addr)
row_in u v slot = row_by (get u.table.uses (slot / ROWS)) (live_bit v.masks slot) (target_at v.targets slot)
    (extra_at v.extras (extra_index u slot))

-- the table as its users see it
abbrev pub table_in : Uses → Vectors → Table
table_in u v = record u.table { rows = mapped ROWS (ROWS * u.table.blocks) (row_in u v) }
