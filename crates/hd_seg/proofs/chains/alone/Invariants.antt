use Rattle.hd_seg.proofs.ChainRings.{IsAloneBelow}
use Rattle.hd_seg.proofs.chains.alone.Given as goal

-- the nodes so far lead to themselves
abbrev pub invariant-loop-kind : goal.invariant-loop-kind
invariant-loop-kind l = IsAloneBelow l.room l.kind l.links.items
