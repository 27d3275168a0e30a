use Rattle.hd_heap.proofs.{Areas.none_live, WantedObjects.unwanted}
use Rattle.hd_heap.proofs.area.Area.may_have.Goals as goal

pub returns-in-Any-clause-none : goal.returns-in-Any-clause-none
returns-in-Any-clause-none c = λ bare k.
    unwanted c.args.wanted c.args.self.now k (none_live c.args.self.now c.requires bare k)
