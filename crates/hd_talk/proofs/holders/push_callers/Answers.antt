use Rattle.std.proofs.Common.{[], arith, get_or, refl, sym}
use Rattle.std.proofs.lemmas.List.{append-nil}
use Rattle.hd_show.proofs.Tables.{row_next, rows_all}
use Rattle.hd_talk.specs.Slots.{caller_lines}
use Rattle.hd_talk.proofs.holders.push_callers.Goals as goal

pub loop-caller-init : goal.loop-caller-init
loop-caller-init c = sym (append-nil c.args.text.now.items)

pub loop-caller-preserved : goal.loop-caller-preserved
loop-caller-preserved c =
    row_next (caller_lines c.args.slot.0) 0 c.args.registers.now c.loop-caller.caller []
    c.loop-caller-test.true c.args.text.now.items c.loop-caller.text.items
    c.push_caller.new.text.items c.loop-caller.caller
    (get_or c.args.registers.now c.loop-caller.caller []) (omega arith) refl c.loop-caller.invariant
    c.in_ok-push_caller.ensures

pub returns : goal.returns
returns c =
    rows_all (caller_lines c.args.slot.0) 0 c.args.registers.now c.loop-caller.caller c.loop-caller-test.false
    c.args.text.now.items c.loop-caller.text.items c.loop-caller.invariant
