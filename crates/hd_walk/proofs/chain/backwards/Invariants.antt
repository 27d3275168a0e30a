use Rattle.std.proofs.Common.{ℕ, ◌+◌, ◌≤◌, ◌++◌, List, length, Some}
use Rattle.std.specs.Option.{option_map_or}
use Rattle.hd_walk.specs.Trail.{IsReadBack}
use Rattle.hd_walk.proofs.chain.backwards.Given as goal

abbrev pub invariant-loop-next : goal.invariant-loop-next
invariant-loop-next l = record {
  reads : (rest : List ℕ) → IsReadBack l.trail l.next rest
      → IsReadBack l.trail (Some l.last) (l.chain.items ++ rest);
  few : length l.chain.items + option_map_or (λ (i : ℕ). i + 1) l.next 0 ≤ l.last + 1;
  inside : option_map_or (λ (i : ℕ). i + 1) l.next 0 ≤ length l.trail;
}

abbrev pub decreases-loop-next : goal.decreases-loop-next
decreases-loop-next l = option_map_or (λ (i : ℕ). i + 1) l.next 0
