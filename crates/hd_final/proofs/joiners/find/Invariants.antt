use Rattle.hd_final.proofs.Basics.{IsFinding, vec_capacity, ◌-◌, ◌≡◌}
use Rattle.hd_model.specs.declared.limits.TheConstants.{REGIONS}
use Rattle.hd_final.proofs.JoinerFind.{end_past}
use Rattle.hd_final.proofs.joiners.find.Given as goal

abbrev pub invariant-loop-region : goal.invariant-loop-region
invariant-loop-region g l = record {
  finding : IsFinding l.heap l.n (g.M.Marker.promoted l.marker) (end_past l.after) l.joiners.items;
  capacity : vec_capacity l.joiners ≡ vec_capacity l.fn.joiners;
}

abbrev pub decreases-loop-region : goal.decreases-loop-region
decreases-loop-region g l = REGIONS - l.after
