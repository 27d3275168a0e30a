use Rattle.std.proofs.Common.{[], arith, get_or, refl, sym}
use Rattle.std.proofs.lemmas.List.{append-nil}
use Rattle.hd_show.specs.Registers.{caller_objects}
use Rattle.hd_show.proofs.Tables.{row_next, rows_all}
use Rattle.hd_show.proofs.registers.push_objects.Goals as goal

pub loop-i-init : goal.loop-i-init
loop-i-init c = sym (append-nil c.args.text.now)

pub loop-i-preserved : goal.loop-i-preserved
loop-i-preserved c =
    row_next caller_objects 0 c.args.objects.now c.loop-i.i [] c.loop-i-test.true c.args.text.now
    c.loop-i.text c.push_caller_objects.new.text c.loop-i.i (get_or c.args.objects.now c.loop-i.i [])
    (omega arith) refl
    c.loop-i.invariant c.in_ok-push_caller_objects.ensures

pub returns : goal.returns
returns c =
    rows_all caller_objects 0 c.args.objects.now c.loop-i.i c.loop-i-test.false c.args.text.now
    c.loop-i.text c.loop-i.invariant
