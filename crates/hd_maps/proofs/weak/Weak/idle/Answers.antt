use Rattle.hd_maps.specs.NextKeys.{IsLeastKey}
use Rattle.hd_maps.proofs.WeakCalls.{idle_low, found_idle, found_no_idle}
use Rattle.hd_maps.proofs.weak.Weak.idle.Goals as goal

pub overflow_cast-result : goal.overflow_cast-result
overflow_cast-result c =
    let least : IsLeastKey c.self.inside.idle 0 c.in-Some.slot = c.in-Some.ensures in
    record { fits = idle_low c.self.invariant c.self.view_is c.in-Some.slot least.has }

pub returns-in-Some : goal.returns-in-Some
returns-in-Some c = found_idle c.self.invariant c.self.view_is c.in-Some.slot c.in-Some.ensures

pub returns-in-None : goal.returns-in-None
returns-in-None c = found_no_idle c.self.invariant c.self.view_is c.in-None.ensures
