use Rattle.std.proofs.Common.{ap, arith, ◌∙◌, ◌≡◌}
use Rattle.hd_model.specs.{declared.limits.TheConstants.REGISTERS, State.register_of}
use Rattle.hd_host.specs.{View.HostView, Wide.id_number}
use Rattle.hd_host.proofs.ShownLocals.{locals-long, shows-all, shows-as-long, shows-next, shows-none}
use Rattle.hd_host.proofs.host.Host.locals.Goals as goal

pub loop-i-init : goal.loop-i-init
loop-i-init c = shows-none c.args.self.now c.args.context c.args.out.now

pub bounds-out-i : goal.bounds-out-i
bounds-out-i c =
    let long = shows-as-long c.args.self.now c.args.context c.args.out.now
    (locals-long c.self.invariant.host c.self.view_is c.args.context c.requires.context) c.loop-i.i c.loop-i.invariant in
    omega (arith, c.loop-i-test.true, c.requires.room, long)

pub loop-i-preserved : goal.loop-i-preserved
loop-i-preserved c =
    shows-next c.args.self.now c.args.context c.args.out.now
    (locals-long c.self.invariant.host c.self.view_is c.args.context c.requires.context) c.loop-i.i c.loop-i.invariant
    c.id_number.result (omega (arith, c.loop-i-test.true))
    (c.id_number.ensures ∙ ap id_number c.register.ensures
    ∙ ap (λ (v : HostView). id_number (register_of v.machine.state c.args.context c.loop-i.i)) c.self.view_is)

pub returns : goal.returns
returns c =
    let all : c.loop-i.i ≡ REGISTERS = omega (arith, c.loop-i-test.false, c.loop-i.auto.i-end) in
    shows-all c.args.self.now c.args.context c.args.out.now
    (locals-long c.self.invariant.host c.self.view_is c.args.context c.requires.context) c.loop-i.i c.loop-i.invariant
    c.requires.room all
