use Rattle.std.proofs.Common.{take, ◌++◌, ◌≡◌}
use Rattle.std.specs.Prelude.{flat_map}
use Rattle.hd_model.specs.Text.{newline}
use Rattle.hd_show.specs.{Blocks.block_row, Blocks.blocks_header, Inside.rows_by}
use Rattle.hd_show.proofs.blocks.push_blocks.Given as goal

abbrev pub invariant-loop-block : goal.invariant-loop-block
invariant-loop-block l =
    l.text
    ≡ (l.fn.text ++ (blocks_header ++ newline))
    ++ flat_map (block_row (rows_by l.rows)) (take l.block-index l.blocks)
