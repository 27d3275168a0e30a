use Rattle.hd_custody.proofs.Basics.{arith, calling, refl, to_look, to_probe, with_slot, ◌+◌, ◌∙◌}
use Rattle.hd_custody.proofs.CallPhases.{table_is, then_as}
use Rattle.hd_custody.proofs.AllocateSteps.{probe_step, came_none, came_some}
use Rattle.hd_custody.proofs.types.Custody.probe.Goals as goal

pub loop-n-init : goal.loop-n-init
loop-n-init g c =
    let a = c.args.caller.now in
    came_none (to_probe c.args.self.now.blocks 1) c.begin-first.result a.view.held c.if-first-ne0.false
    (probe_step (calling a) c.begin-first.new.caller 0 _ c.begin-first.result (omega arith)
    c.probed.ensures.value c.probed.ensures.kind c.begin-first.ensures.view)

pub exchange-slot-requires : goal.exchange-slot-requires
exchange-slot-requires g c = record {
  seat = table_is c.loop-n.invariant ∙ c.requires.seat;
  cell = c.probed-in-loop-n.ensures.cell;
  slot = λ ne. absurd (ne refl);
}

pub loop-n-preserved : goal.loop-n-preserved
loop-n-preserved g c =
    then_as (λ h. h) c.loop-n.invariant
    (came_none (to_probe c.args.self.now.blocks (c.loop-n.n + 1)) c.exchange-slot.result
    c.loop-n.caller.view.held c.if-slot-ne0.false
    (probe_step c.loop-n.caller c.exchange-slot.new.caller c.loop-n.n _ c.exchange-slot.result
    c.loop-n-test.true c.probed-in-loop-n.ensures.value c.probed-in-loop-n.ensures.kind
    c.exchange-slot.ensures.view))

pub returns-then-slot-ne0-clause-made : goal.returns-then-slot-ne0-clause-made
returns-then-slot-ne0-clause-made g c =
    came_some (to_probe c.args.self.now.blocks (c.loop-n.n + 1)) (to_look c.args.self.now.blocks 1)
    c.exchange-slot.result c.if-slot-ne0.true
    (then_as (with_slot c.exchange-slot.result (c.args.kind + 1)) c.loop-n.invariant
    (probe_step c.loop-n.caller c.exchange-slot.new.caller c.loop-n.n _ c.exchange-slot.result
    c.loop-n-test.true c.probed-in-loop-n.ensures.value c.probed-in-loop-n.ensures.kind
    c.exchange-slot.ensures.view))
