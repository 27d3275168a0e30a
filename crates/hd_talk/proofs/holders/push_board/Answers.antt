use Rattle.std.proofs.Common.{None, arith, get_or, refl, sym}
use Rattle.std.proofs.lemmas.List.{append-nil}
use Rattle.hd_show.proofs.Tables.{row_next, rows_all}
use Rattle.hd_talk.specs.Slots.{board_line}
use Rattle.hd_talk.proofs.holders.push_board.Goals as goal

pub loop-k-init : goal.loop-k-init
loop-k-init c = sym (append-nil c.args.text.now.items)

pub loop-k-preserved : goal.loop-k-preserved
loop-k-preserved c =
    row_next (board_line c.args.slot.0) 0 c.args.board.now c.loop-k.k None c.loop-k-test.true
    c.args.text.now.items c.loop-k.text.items c.push_index.new.text.items c.loop-k.k
    (get_or c.args.board.now c.loop-k.k None) (omega arith) refl c.loop-k.invariant
    c.in_ok-push_index.ensures

pub returns : goal.returns
returns c =
    rows_all (board_line c.args.slot.0) 0 c.args.board.now c.loop-k.k c.loop-k-test.false
    c.args.text.now.items c.loop-k.text.items c.loop-k.invariant
