use Rattle.hd_heap.proofs.Areas.{none_live}
use Rattle.hd_heap.proofs.area.Area.has_condemned.Goals as goal

pub returns-then-self-n-clause-none : goal.returns-then-self-n-clause-none
returns-then-self-n-clause-none c = λ bare k there.
    absurd (none_live c.args.self.now c.requires bare k there)
