use Rattle.std.proofs.Common.{ℕ, ◌+◌}
use Rattle.std.specs.Option.{option_map_or}
use Rattle.hd_root.proofs.TargetLists.{IsListingLinks}
use Rattle.hd_root.proofs.graph.list_dependents.Given as goal

abbrev pub invariant-loop-next : goal.invariant-loop-next
invariant-loop-next l = IsListingLinks l.dependents l.fn.from l.next l.initial.targets.items l.targets.items

abbrev pub decreases-loop-next : goal.decreases-loop-next
decreases-loop-next l = option_map_or (λ (i : ℕ). i + 1) l.next 0
