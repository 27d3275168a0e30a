use Rattle.hd_store.proofs.store.Store.callers.Goals as goal

pub callers-requires : goal.callers-requires
callers-requires c = c.self.invariant.limits.callers.1
