use Rattle.hd_plan.proofs.Basics.{AreCopied, length, ◌-◌, ◌≤◌}
use Rattle.hd_plan.proofs.copying.copy_moves.Given as goal

abbrev pub invariant-loop-k : goal.invariant-loop-k
invariant-loop-k g l = record {
  copied : AreCopied (g.F.Forward.forwarding l.forward) l.initial.heap l.heap l.moves l.k;
  within : l.k ≤ length l.moves;
}

abbrev pub decreases-loop-k : goal.decreases-loop-k
decreases-loop-k g l = length l.moves - l.k
