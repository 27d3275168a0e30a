use Rattle.hd_ages.proofs.Basics.{IfSome, Some, blocks_from, chain_of, due_clumps, get, handles_of, length, visits_of, ◌+◌, ◌≡◌}
use Rattle.hd_ages.proofs.due_rows.count_due.Given as goal

abbrev pub invariant-loop-next : goal.invariant-loop-next
invariant-loop-next l = record {
  counted : l.clumps + length (due_clumps l.ages l.n (blocks_from l.next (chain_of l.seg l.fn.kind)))
      ≡ visits_of l.seg l.ages l.n l.fn.kind;
  next : IfSome l.next (λ b. get l.seg.uses b ≡ Some (handles_of l.fn.kind));
}

abbrev pub decreases-loop-next : goal.decreases-loop-next
decreases-loop-next l = length (blocks_from l.next (chain_of l.seg l.fn.kind))
