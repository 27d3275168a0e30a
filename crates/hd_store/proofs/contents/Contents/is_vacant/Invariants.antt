use Rattle.hd_store.proofs.StoreWords.{Slot, ◌*◌, ◌+◌, ◌<◌, ◌≤◌}
use Rattle.hd_store.specs.Spare.{HasNothing}
use Rattle.hd_model.specs.declared.limits.TheConstants.{ROWS}
use Rattle.hd_store.proofs.contents.Contents.is_vacant.Given as goal

-- so it is of the first of them
abbrev pub invariant-loop-row : goal.invariant-loop-row
invariant-loop-row l = (slot : Slot) → l.block * ROWS ≤ slot.0 → slot.0 < l.block * ROWS + l.row
    → HasNothing l.fn.self.state slot
