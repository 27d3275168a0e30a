-- What `show` writes of blocks, and what is counted by block and by slot.
use Rattle.std.specs.Prelude.{ℕ, ◌+◌, ◌-◌, ◌*◌, ◌/◌, ◌==◌, Bool, List, [], ◌∷◌, ◌++◌, filter, codes, decimal, count_by, Option, Some, None}
use Rattle.std.specs.List.{range_with_len}
use Rattle.hd_model.specs.declared.data.Kind.{Kind}
use Rattle.hd_model.specs.declared.limits.TheConstants.{ROWS}
use Rattle.hd_model.specs.CommandText.{kind_name}
use Rattle.hd_model.specs.Text.{newline}
use Rattle.hd_seen.specs.Seen.{Picture}
use Rattle.hd_seen.specs.declared.SeenBlock.{SeenBlock}
use Rattle.hd_seen.specs.declared.SeenEntry.{SeenEntry}
use Rattle.hd_seen.specs.declared.SeenHandle.{SeenHandle}
use Rattle.hd_show.specs.Columns.{cells_after, padded, row, table}
use Rattle.hd_show.specs.Ranges.{ranges_of, ranges_word}

-- how many handles, and how many entries of the weak table, each block has; and how many of both have a slot
pub record RowCounts : Type 0 where
  pub handles : ℕ → ℕ
  pub entries : ℕ → ℕ
  pub taken : ℕ → ℕ

-- whether a handle is in a block, or has a slot; and the same of an entry of the weak table
abbrev pub handle_within : ℕ → SeenHandle → Bool
handle_within block h = h.slot.0 / ROWS == block

abbrev pub entry_within : ℕ → SeenEntry → Bool
entry_within block e = e.slot.0 / ROWS == block

abbrev pub handle_at : ℕ → SeenHandle → Bool
handle_at slot h = h.slot.0 == slot

abbrev pub entry_at : ℕ → SeenEntry → Bool
entry_at slot e = e.slot.0 == slot

-- the counts of a picture
abbrev pub rows_of : Picture → RowCounts
rows_of p = record {
  handles = λ block. count_by (handle_within block) p.handles;
  entries = λ block. count_by (entry_within block) p.entries;
  taken = λ slot. count_by (handle_at slot) p.handles + count_by (entry_at slot) p.entries;
}

-- the slots of a block that have neither a handle nor an entry: how many they are, and their rows
abbrev pub free_in : RowCounts → ℕ → ℕ
free_in c block = ROWS - c.handles block - c.entries block

abbrev pub is_free_row : RowCounts → ℕ → ℕ → Bool
is_free_row c block r = c.taken (block * ROWS + r) == 0

abbrev pub free_rows : RowCounts → ℕ → List ℕ
free_rows c block = filter (is_free_row c block) (range_with_len 0 ROWS)

-- the line of a block of extra data
abbrev pub data_row : ℕ → List ℕ
data_row number = row (codes "data") (
    (8, decimal number) ∷ (15, codes "-") ∷ (24, codes "-") ∷ (33, codes "-") ∷ (39, codes "-") ∷ [])

-- the line of a block of handles: its counts, and its free rows as ranges
abbrev pub counts_line : RowCounts → Kind → ℕ → List ℕ
counts_line c kind number = padded 39 (cells_after (kind_name kind) (
    (8, decimal number) ∷ (15, decimal (c.handles number)) ∷ (24, decimal (c.entries number))
    ∷ (33, decimal (free_in c number)) ∷ []))

abbrev pub kind_block_row : RowCounts → Kind → ℕ → List ℕ
kind_block_row c kind number =
    counts_line c kind number ++ ranges_word (ranges_of (free_rows c number)) ++ newline

-- blocks: those of a kind in the order of its chain, and then those of extra data
abbrev pub block_row_by : RowCounts → ℕ → Option Kind → List ℕ
block_row_by c number None = data_row number
block_row_by c number (Some kind) = kind_block_row c kind number

abbrev pub block_row : RowCounts → SeenBlock → List ℕ
block_row c b = block_row_by c b.number b.kind

abbrev pub blocks_header : List ℕ
blocks_header = codes "KIND    BLOCK  HANDLES  ENTRIES  FREE  ROWS"

abbrev pub blocks_text : RowCounts → List SeenBlock → List ℕ
blocks_text c blocks = table blocks_header (block_row c) blocks
