use Rattle.std.proofs.Common.{length, ◌+◌, ◌-◌, ◌^◌}
use Rattle.std.specs.FinMap.{len}
use Rattle.hd_plain.specs.Inside.{YoungEdge}
use Rattle.hd_plain.proofs.MarkedSets.{Closing}
use Rattle.hd_plain.proofs.marks.Marks.close.Given as goal

abbrev pub invariant-objects : goal.invariant-objects
invariant-objects l = Closing (YoungEdge l.n l.machine.state) l.initial.self l.self

abbrev pub decreases-objects : goal.decreases-objects
decreases-objects l = (2 ^ 63 + length l.self.left) - len l.self.marked
