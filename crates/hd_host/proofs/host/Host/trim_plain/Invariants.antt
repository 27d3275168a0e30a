use Rattle.std.proofs.Common.{[], ◌∷◌}
use Rattle.hd_model.specs.State.{given_of}
use Rattle.hd_host.specs.{Turns.TrimsRow, View.HostView}
use Rattle.hd_host.proofs.host.Host.trim_plain.Given as goal

-- what is given back from here on goes on what was
abbrev pub invariant-trims : goal.invariant-trims
invariant-trims l = (w : HostView) → TrimsRow (l.kind ∷ []) l.self w → TrimsRow (l.kind ∷ []) l.fn.self w

abbrev pub decreases-trims : goal.decreases-trims
decreases-trims l = given_of l.self.machine.state
