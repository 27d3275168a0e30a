use Rattle.std.proofs.Common.{ap, arith, ◌∙◌}
use Rattle.hd_host.specs.View.{HostView}
use Rattle.hd_host.proofs.host.Host.contexts.Goals as goal

pub returns-clause-value : goal.returns-clause-value
returns-clause-value c =
    c.callers.ensures ∙ ap (λ (v : HostView). v.machine.numbers.callers) c.self.view_is

pub returns-clause-some : goal.returns-clause-some
returns-clause-some c = omega (arith, c.callers.ensures, c.self.invariant.host.limits.callers.0)
