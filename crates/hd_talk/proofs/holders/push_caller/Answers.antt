use Rattle.std.proofs.Common.{None, arith, get_or, refl, sym}
use Rattle.std.proofs.lemmas.List.{append-nil}
use Rattle.hd_show.proofs.Tables.{row_next, rows_all}
use Rattle.hd_talk.specs.Slots.{register_line}
use Rattle.hd_talk.proofs.holders.push_caller.Goals as goal

pub loop-d-init : goal.loop-d-init
loop-d-init c = sym (append-nil c.args.text.now.items)

pub loop-d-preserved : goal.loop-d-preserved
loop-d-preserved c =
    row_next (register_line c.args.slot.0 c.args.caller) 0 c.args.registers.now c.loop-d.d None
    c.loop-d-test.true c.args.text.now.items c.loop-d.text.items c.push_register.new.text.items c.loop-d.d
    (get_or c.args.registers.now c.loop-d.d None) (omega arith) refl c.loop-d.invariant
    c.in_ok-push_register.ensures

pub returns : goal.returns
returns c =
    rows_all (register_line c.args.slot.0 c.args.caller) 0 c.args.registers.now c.loop-d.d c.loop-d-test.false
    c.args.text.now.items c.loop-d.text.items c.loop-d.invariant
