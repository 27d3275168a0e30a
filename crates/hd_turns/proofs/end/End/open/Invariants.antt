use Rattle.std.proofs.Common.{None, ◌≡◌, true}
use Rattle.std.specs.Arc.{arc_value}
use Rattle.hd_turns.specs.Views.{ends_of, starting}
use Rattle.hd_turns.proofs.end.End.open.Given as goal

abbrev pub invariant-loop-number : goal.invariant-loop-number
invariant-loop-number g l = record {
  ends : l.ends.items ≡ ends_of (arc_value l.gate) l.fn.value l.number;
  last : l.last ≡ record { table = arc_value l.gate; view = starting l.fn.value l.number true; value = None };
}
