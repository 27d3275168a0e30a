-- The blocks of a table as the program keeps them.
use Rattle.std.specs.Prelude.{ℕ, List, slice_index_or, Option, Some, None, refl}
use Rattle.std.specs.Coded.{Coded, code_by, coded×, coded_ℕ}
use Rattle.std.specs.FinMap as map
use Rattle.std.specs.FinMap.{FinMap, empty}
use Rattle.std.specs.Ordering.{nat_cmp}
use Rattle.hd_model.specs.State.{BlockUse, handles_of, extra_data}
use Rattle.hd_model.specs.Table.{Table}
use Rattle.hd_model.specs.Code.{table_code}
use Rattle.hd_seg.specs.declared.row.BlockKind.{BlockKind}
use Rattle.hd_seg.specs.declared.row.BlockKind.TheVariants as block
use Rattle.hd_seg.specs.declared.block.Block.{Block}
use Rattle.hd_seg.specs.Mapped.{mapped}

-- the table without its rows; and for each block whose rows have extras, the data block with these
pub record Uses : Type 0 where
  pub table : Table
  pub extras : FinMap nat_cmp ℕ

abbrev pub uses_code : Coded Uses
uses_code =
    code_by (Table × FinMap nat_cmp ℕ) (coded× table_code (map.code coded_ℕ coded_ℕ))
    (λ u. (u.table, u.extras))
    (λ p. record { table = p.0; extras = p.1 }) (λ _. refl)

-- the use of a block, by what it is used for
abbrev pub use_of : BlockKind → Option BlockUse
use_of block.Unused = None
use_of (block.Rows kind) = Some (handles_of kind)
use_of block.Extras = Some extra_data

-- the block with a number, its use, and its data block
abbrev pub block_at : List Block → ℕ → Block
block_at table b = slice_index_or table b (record { kind = block.Unused; extras = None })

abbrev pub use_at : List Block → ℕ → Option BlockUse
use_at table b = use_of (block_at table b).kind

abbrev pub extras_at : List Block → ℕ → Option ℕ
extras_at table b = (block_at table b).extras

-- the blocks as their users see them, numbered from 1
abbrev pub uses_in : ℕ → List Block → List (List ℕ) → Uses
uses_in number table chains = record {
  table = record { rows = empty; chains = chains; uses = mapped 1 number (use_at table); blocks = number };
  extras = mapped 1 number (extras_at table);
}
