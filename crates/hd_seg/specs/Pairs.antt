-- A block of handles with extra data, and its data block.
use Rattle.std.specs.Prelude.{ℕ, Bool, false, Option, Some, None}
use Rattle.std.specs.FinMap.{remove}
use Rattle.hd_model.specs.Kinds.{is_paired}
use Rattle.hd_model.specs.State.{BlockUse, handles_of, extra_data}
use Rattle.hd_model.specs.Table.{Table}

-- whether a block has handles of a kind with extra data
abbrev pub is_pair : Option BlockUse → Bool
is_pair None = false
is_pair (Some (handles_of k)) = is_paired k
is_pair (Some extra_data) = false

-- the table without a data block
abbrev pub without_data : Table → ℕ → Table
without_data t block = record t { uses = remove t.uses block }
