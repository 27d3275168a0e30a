use Rattle.hd_cwt.proofs.EntryCalls.{found, missed}
use Rattle.hd_cwt.proofs.entries.Entries.find.Goals as goal

pub returns-clause-found : goal.returns-clause-found
returns-clause-found g c =
    found c.self.invariant c.self.view_is c.deref.result.now c.deref.ensures.value
    c.search.result c.args.key c.search.ensures.found

pub returns-clause-none : goal.returns-clause-none
returns-clause-none g c =
    missed c.self.invariant c.self.view_is c.deref.result.now c.deref.ensures.value
    c.search.result c.args.key c.search.ensures.none
