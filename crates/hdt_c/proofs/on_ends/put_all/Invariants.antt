use Rattle.std.proofs.Common.{List, None, Option, Some, length, map, replicate, ◌++◌, ◌≡◌}
use Rattle.hd_ends.specs.declared.end.End.{End}
use Rattle.hdt_c.specs.Outs.{values_of}
use Rattle.hdt_c.proofs.on_ends.put_all.Given as goal

abbrev pub invariant-loop-end : goal.invariant-loop-end
invariant-loop-end l = record {
  later : List (Option End);
  ends : values_of l.ends ≡ replicate (length l.opened.items) None ++ later;
  all : map (λ end. Some end.value) l.opened.items ++ later ≡ map (λ end. Some end.value) l.fn.opened.items;
}

abbrev pub decreases-loop-end : goal.decreases-loop-end
decreases-loop-end l = length l.opened.items
