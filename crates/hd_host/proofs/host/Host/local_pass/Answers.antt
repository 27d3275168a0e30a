use Rattle.std.proofs.Common.{ap, ◌∙◌}
use Rattle.hd_model.specs.State.{State, register_of, with_register}
use Rattle.hd_host.specs.View.{HostView}
use Rattle.hd_host.proofs.GrownWide.{host_alone, steps_alone}
use Rattle.hd_host.proofs.host.Host.local_pass.Goals as goal

pub invariant_of-self : goal.invariant_of-self
invariant_of-self c =
    host_alone c.self.invariant c.self.view_is c.pass-id.new.self _ c.pass-id.ensures.passed
    c.contents-sound.ensures.sound

pub returns-clause-value : goal.returns-clause-value
returns-clause-value c =
    c.pass-id.ensures.value
    ∙ ap (λ (v : HostView). register_of v.machine.state c.args.from c.args.src) c.self.view_is

pub returns-clause-does : goal.returns-clause-does
returns-clause-does c =
    steps_alone c.self.invariant c.self.view_is c.pass-id.new.self
    (λ (s : State). with_register s c.args.to c.args.dst (register_of s c.args.from c.args.src)) _
    c.pass-id.ensures.passed c.clear.ensures
