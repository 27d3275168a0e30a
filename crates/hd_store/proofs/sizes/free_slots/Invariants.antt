use Rattle.hd_store.proofs.StoreWords.{◌*◌, ◌+◌, ◌-◌, ◌≤◌}
use Rattle.hd_store.proofs.FreeSlots.{IsFreeBelow}
use Rattle.hd_store.proofs.sizes.free_slots.Given as goal
use Rattle.hd_model.specs.Counting.{Counts}
use Rattle.hd_model.specs.declared.limits.TheConstants.{ROWS}

abbrev pub invariant-loop-block : goal.invariant-loop-block
invariant-loop-block l = record {
  counted : Counts (IsFreeBelow l.table l.kind (l.before + 1)) l.free;
  few : l.free ≤ ROWS * (l.before + 1);
  within : l.before ≤ l.table.blocks;
}

abbrev pub decreases-loop-block : goal.decreases-loop-block
decreases-loop-block l = l.table.blocks - l.before
