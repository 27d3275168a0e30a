-- What `show` writes of the kinds of handle, as `!gchandles -stat` of SOS does.
use Rattle.std.specs.Prelude.{ℕ, Bool, true, false, List, [], ◌∷◌, ◌++◌, filter, flat_map, codes, decimal, count_by, sum_by, Option, Some, None}
use Rattle.hd_model.specs.declared.data.Kind.{Kind}
use Rattle.hd_model.specs.CommandText.{kind_name}
use Rattle.hd_model.specs.Kinds.{all_kinds, is_kind}
use Rattle.hd_model.specs.Text.{newline}
use Rattle.hd_seen.specs.Seen.{Picture}
use Rattle.hd_seen.specs.declared.SeenBlock.{SeenBlock}
use Rattle.hd_seen.specs.declared.SeenHandle.{SeenHandle}
use Rattle.hd_show.specs.Blocks.{RowCounts, free_in}
use Rattle.hd_show.specs.Columns.{row}

-- whether a kind is another one; where none is asked for, each is
abbrev pub is_of : Option Kind → Kind → Bool
is_of None found = true
is_of (Some kind) found = is_kind kind found

-- whether a handle is of a kind, and whether a block has handles of a kind
abbrev pub handle_is : Option Kind → SeenHandle → Bool
handle_is kind h = is_of kind h.kind

abbrev pub holds_kind : Option Kind → Option Kind → Bool
holds_kind kind None = false
holds_kind kind (Some found) = is_of kind found

abbrev pub block_is : Option Kind → SeenBlock → Bool
block_is kind b = holds_kind kind b.kind

-- the handles of a kind, its blocks, and the free slots of these
abbrev pub kind_handles : Picture → Option Kind → ℕ
kind_handles p kind = count_by (handle_is kind) p.handles

abbrev pub kind_blocks : Picture → Option Kind → ℕ
kind_blocks p kind = count_by (block_is kind) p.blocks

abbrev pub kind_free : RowCounts → Picture → Option Kind → ℕ
kind_free c p kind = sum_by (λ (b : SeenBlock). free_in c b.number) (filter (block_is kind) p.blocks)

abbrev pub name_of : Option Kind → List ℕ
name_of None = codes "all"
name_of (Some kind) = kind_name kind

-- the line of a kind, or of all
abbrev pub kind_row : RowCounts → Picture → Option Kind → List ℕ
kind_row c p kind = row (name_of kind) (
    (8, decimal (kind_handles p kind)) ∷ (17, decimal (kind_blocks p kind))
    ∷ (25, decimal (kind_free c p kind)) ∷ [])

abbrev pub of_kind : RowCounts → Picture → Kind → List ℕ
of_kind c p kind = kind_row c p (Some kind)

abbrev pub kinds_header : List ℕ
kinds_header = codes "KIND    HANDLES  BLOCKS  FREE"

abbrev pub kinds_text : RowCounts → Picture → List ℕ
kinds_text c p =
    kinds_header ++ newline ++ flat_map (of_kind c p) all_kinds ++ kind_row c p None ++ newline
