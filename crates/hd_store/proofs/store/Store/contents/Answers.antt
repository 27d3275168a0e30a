use Rattle.hd_store.proofs.StoreWords.{subst}
use Rattle.hd_store.specs.Calls.{IsSound}
use Rattle.hd_store.proofs.store.Store.contents.Goals as goal

pub returns-clause-sound : goal.returns-clause-sound
returns-clause-sound c = subst IsSound c.self.view_is c.self.invariant
