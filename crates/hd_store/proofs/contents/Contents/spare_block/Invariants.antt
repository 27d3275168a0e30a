use Rattle.hd_store.proofs.StoreWords.{ℕ, ◌-◌, ◌≤◌}
use Rattle.hd_model.specs.declared.limits.TheConstants.{HOST_BLOCKS}
use Rattle.hd_store.specs.Spare.{IsSpare}
use Rattle.hd_store.proofs.contents.Contents.spare_block.Given as goal

-- none of the first blocks is spare
abbrev pub invariant-loop-block : goal.invariant-loop-block
invariant-loop-block l = record {
  none : (block : ℕ) → block ≤ l.before → IsSpare l.fn.self.state l.kind block → ⊥;
  few : l.before ≤ HOST_BLOCKS;
}

abbrev pub decreases-loop-block : goal.decreases-loop-block
decreases-loop-block l = l.fn.self.numbers.blocks - l.before
