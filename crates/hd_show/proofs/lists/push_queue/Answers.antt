use Rattle.std.proofs.Common.{arith, get_or, refl, sym, ◌++◌, ◌+◌, ◌∙◌}
use Rattle.std.specs.Prelude.{codes}
use Rattle.std.proofs.lemmas.List.{append-nil}
use Rattle.hd_model.specs.Text.{newline}
use Rattle.hd_show.specs.Lists.{queue_row}
use Rattle.hd_show.proofs.Tables.{row_next, table_end}
use Rattle.hd_show.proofs.lists.push_queue.Goals as goal

pub loop-i-init : goal.loop-i-init
loop-i-init c =
    c.in_ok-push.ensures ∙ sym (append-nil (c.args.text.now ++ (codes "QUEUED  OBJECT" ++ newline)))

pub loop-i-preserved : goal.loop-i-preserved
loop-i-preserved c =
    row_next queue_row 1 c.args.queue.now c.loop-i.i (record { 0 = 0 })
    c.loop-i-test.true
    (c.args.text.now ++ (codes "QUEUED  OBJECT" ++ newline)) c.loop-i.text c.push_queued.new.text
    (c.loop-i.i + 1)
    (get_or c.args.queue.now c.loop-i.i (record { 0 = 0 })) (omega arith) refl
    c.loop-i.invariant
    c.in_ok-push_queued.ensures

pub returns : goal.returns
returns c =
    table_end queue_row 1 c.args.queue.now c.loop-i.i c.loop-i-test.false c.args.text.now
    (codes "QUEUED  OBJECT" ++ newline) c.loop-i.text c.loop-i.invariant newline c.push-2.new.self
    c.in_ok-push-2.ensures
