use Rattle.hd_cwt.proofs.EntryCalls.{found_idle, found_least, none_idle}
use Rattle.hd_cwt.proofs.entries.Entries.idle.Goals as goal

pub returns-clause-idle : goal.returns-clause-idle
returns-clause-idle c = found_idle c.self.invariant c.self.view_is c.least.result c.least.ensures.found

pub returns-clause-least : goal.returns-clause-least
returns-clause-least c = found_least c.self.invariant c.self.view_is c.least.result c.least.ensures.found

pub returns-clause-none : goal.returns-clause-none
returns-clause-none c = none_idle c.self.invariant c.self.view_is c.least.result c.least.ensures.none
