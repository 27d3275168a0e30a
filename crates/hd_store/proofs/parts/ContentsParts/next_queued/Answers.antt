use Rattle.hd_store.proofs.StoreWords.{parts}
use Rattle.hd_store.proofs.QueueTake.{stored-popped, machine-popped, named-popped}
use Rattle.hd_store.proofs.parts.ContentsParts.next_queued.Goals as goal

pub invariant_of-self : goal.invariant_of-self
invariant_of-self c = stored-popped (parts c.self.inside) c.args.self.now c.self.view_is c.self.invariant
    c.pop.new.self c.pop.result c.pop.ensures

pub returns-clause-queue : goal.returns-clause-queue
returns-clause-queue c = machine-popped (parts c.self.inside) c.args.self.now c.self.view_is c.self.invariant
    c.pop.new.self c.pop.result c.pop.ensures

pub returns-clause-named : goal.returns-clause-named
returns-clause-named c = named-popped (parts c.self.inside) c.args.self.now c.self.view_is c.self.invariant
    c.pop.new.self c.pop.result c.pop.ensures
