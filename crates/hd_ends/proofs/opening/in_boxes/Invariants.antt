use Rattle.std.proofs.Common.{◌≡◌, ◌++◌, length, map}
use Rattle.std.specs.Vec.Iter.{into_iter_items, into_iter_len}
use Rattle.hd_ends.specs.declared.end.End.TheVariants.{Shared}
use Rattle.hd_ends.specs.Views.{end_of}
use Rattle.hd_ends.proofs.opening.in_boxes.Given as goal

abbrev pub invariant-loop-end : goal.invariant-loop-end
invariant-loop-end l = record {
  all : l.yielded ++ into_iter_items l.end-iterator ≡ into_iter_items l.initial.end-iterator;
  count : into_iter_len l.end-iterator ≡ length (into_iter_items l.end-iterator);
  made : map (λ end. end.value) l.made.items ≡ map (λ k. Shared (end_of k l.each l.last)) l.yielded;
}
