use Rattle.hd_mark.proofs.Basics.{length, ◌-◌, ◌≡◌}
use Rattle.hd_mark.proofs.CondemnedWalks.{IsPlaced}
use Rattle.hd_mark.proofs.indexes.Indexes.of.Given as goal

abbrev pub invariant-loop-region : goal.invariant-loop-region
invariant-loop-region l = record {
  placed : IsPlaced l.heap l.n l.after l.indexes.items l.regions;
  long : length l.indexes.items ≡ l.fn.extent.end;
}

abbrev pub decreases-loop-region : goal.decreases-loop-region
decreases-loop-region l = length l.indexes.items - l.after
