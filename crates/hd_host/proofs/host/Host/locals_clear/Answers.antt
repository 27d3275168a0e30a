use Rattle.hd_model.specs.State.{State}
use Rattle.hd_store.specs.Hosted.{with_cleared}
use Rattle.hd_host.proofs.GrownWide.{host_alone, steps_alone}
use Rattle.hd_host.proofs.host.Host.locals_clear.Goals as goal

pub invariant_of-self : goal.invariant_of-self
invariant_of-self c =
    host_alone c.self.invariant c.self.view_is c.clear_registers.new.self _ c.clear_registers.ensures
    c.contents-sound.ensures.sound

pub returns : goal.returns
returns c =
    steps_alone c.self.invariant c.self.view_is c.clear_registers.new.self
    (λ (s : State). with_cleared s c.args.context c.args.first c.args.n) _ c.clear_registers.ensures
    c.clear.ensures
