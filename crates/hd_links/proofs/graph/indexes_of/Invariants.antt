use Rattle.std.proofs.Common.{nat_eq}
use Rattle.std.specs.HashMap.{get}
use Rattle.hd_links.specs.Graph.{AreIndexes}
use Rattle.hd_links.proofs.graph.indexes_of.Given as goal

abbrev pub invariant-loop-i : goal.invariant-loop-i
invariant-loop-i l = AreIndexes l.objects (get nat_eq l.indexes) l.i
