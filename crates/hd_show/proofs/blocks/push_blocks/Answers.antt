use Rattle.std.proofs.Common.{sym, ◌++◌, ◌∙◌}
use Rattle.std.proofs.lemmas.List.{append-nil}
use Rattle.hd_model.specs.Text.{newline}
use Rattle.hd_show.specs.{Blocks.block_row, Blocks.blocks_header, Inside.rows_by}
use Rattle.hd_show.proofs.Tables.{list_end}
use Rattle.hd_show.proofs.blocks.push_blocks.Goals as goal

pub loop-block-init : goal.loop-block-init
loop-block-init c =
    c.in_ok-push.ensures
    ∙ sym (append-nil (c.args.text.now ++ (blocks_header ++ newline)))

pub returns : goal.returns
returns c =
    list_end (block_row (rows_by c.args.rows.now)) c.args.blocks.now c.loop-block.block-index
    c.loop-block-test.false c.args.text.now (blocks_header ++ newline) c.loop-block.text
    c.loop-block.invariant newline c.push-2.new.self c.in_ok-push-2.ensures
