use Rattle.std.proofs.Common.{None, arith, get_or, refl, sym, ◌++◌, ◌∙◌}
use Rattle.std.specs.Prelude.{codes}
use Rattle.std.proofs.lemmas.List.{append-nil}
use Rattle.hd_model.specs.Text.{newline}
use Rattle.hd_show.specs.Lists.{board_rows}
use Rattle.hd_show.proofs.Tables.{row_next, table_all}
use Rattle.hd_show.proofs.lists.push_board.Goals as goal

pub loop-i-init : goal.loop-i-init
loop-i-init c =
    c.in_ok-push.ensures ∙ sym (append-nil (c.args.text.now ++ (codes "BOARD   SLOT" ++ newline)))

pub loop-i-preserved : goal.loop-i-preserved
loop-i-preserved c =
    row_next board_rows 0 c.args.board.now c.loop-i.i None c.loop-i-test.true
    (c.args.text.now ++ (codes "BOARD   SLOT" ++ newline)) c.loop-i.text c.push_posted.new.text c.loop-i.i
    (get_or c.args.board.now c.loop-i.i None) (omega arith) refl c.loop-i.invariant
    c.in_ok-push_posted.ensures

pub returns : goal.returns
returns c =
    table_all board_rows 0 c.args.board.now c.loop-i.i c.loop-i-test.false c.args.text.now
    (codes "BOARD   SLOT" ++ newline) c.loop-i.text c.loop-i.invariant
