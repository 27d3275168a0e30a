use Rattle.std.proofs.Common.{IfSome, Some, length, map, ◌++◌, ◌≡◌}
use Rattle.std.specs.FinMap.{get}
use Rattle.hd_ages.specs.Walk.{blocks_from}
use Rattle.hd_model.specs.State.{handles_of}
use Rattle.hd_model.specs.Table.{chain_of}
use Rattle.hd_snapshot.proofs.blocks.add_chain.Given as goal

-- what is added and what is still to come are the whole chain
abbrev pub invariant-loop-next : goal.invariant-loop-next
invariant-loop-next l = record {
  all : l.seen.items
      ++ map (λ block. record { number = block; kind = Some l.kind })
      (blocks_from l.next (chain_of l.table l.kind))
      ≡ l.fn.seen.items
      ++ map (λ block. record { number = block; kind = Some l.kind }) (chain_of l.table l.kind);
  next : IfSome l.next (λ b. get l.table.uses b ≡ Some (handles_of l.kind));
}

abbrev pub decreases-loop-next : goal.decreases-loop-next
decreases-loop-next l = length (blocks_from l.next (chain_of l.table l.kind))
