use Rattle.std.proofs.Common.{None, arith, get_or, refl, sym}
use Rattle.std.proofs.lemmas.List.{append-nil}
use Rattle.hd_show.specs.Registers.{handle_register}
use Rattle.hd_show.proofs.Tables.{row_next, rows_all}
use Rattle.hd_show.proofs.registers.push_caller_slots.Goals as goal

pub loop-i-init : goal.loop-i-init
loop-i-init c = sym (append-nil c.args.text.now)

pub loop-i-preserved : goal.loop-i-preserved
loop-i-preserved c =
    row_next
    (handle_register c.args.caller) 0 c.args.slots.now c.loop-i.i None c.loop-i-test.true c.args.text.now
    c.loop-i.text c.push_handle_register.new.text c.loop-i.i (get_or c.args.slots.now c.loop-i.i None)
    (omega arith) refl
    c.loop-i.invariant c.in_ok-push_handle_register.ensures

pub returns : goal.returns
returns c =
    rows_all (handle_register c.args.caller) 0 c.args.slots.now c.loop-i.i c.loop-i-test.false c.args.text.now
    c.loop-i.text c.loop-i.invariant
