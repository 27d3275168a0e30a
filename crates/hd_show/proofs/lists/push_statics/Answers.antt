use Rattle.std.proofs.Common.{None, arith, get_or, refl, sym, ◌++◌, ◌∙◌}
use Rattle.std.specs.Prelude.{codes}
use Rattle.std.proofs.lemmas.List.{append-nil}
use Rattle.hd_model.specs.Text.{newline}
use Rattle.hd_show.specs.Lists.{static_rows}
use Rattle.hd_show.proofs.Tables.{row_next, table_end}
use Rattle.hd_show.proofs.lists.push_statics.Goals as goal

pub loop-i-init : goal.loop-i-init
loop-i-init c =
    c.in_ok-push.ensures ∙ sym (append-nil (c.args.text.now ++ (codes "STATIC  OBJECT" ++ newline)))

pub loop-i-preserved : goal.loop-i-preserved
loop-i-preserved c =
    row_next static_rows 0 c.args.statics.now c.loop-i.i None c.loop-i-test.true
    (c.args.text.now ++ (codes "STATIC  OBJECT" ++ newline)) c.loop-i.text c.push_static.new.text c.loop-i.i
    (get_or c.args.statics.now c.loop-i.i None) (omega arith) refl c.loop-i.invariant
    c.in_ok-push_static.ensures

pub returns : goal.returns
returns c =
    table_end static_rows 0 c.args.statics.now c.loop-i.i c.loop-i-test.false c.args.text.now
    (codes "STATIC  OBJECT" ++ newline) c.loop-i.text c.loop-i.invariant newline c.push-2.new.self
    c.in_ok-push-2.ensures
