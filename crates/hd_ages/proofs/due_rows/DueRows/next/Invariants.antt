use Rattle.hd_ages.proofs.Basics.{IsOn, blocks_to_come, clumps_to_come, length, slots_to_come, ◌+◌, ◌≡◌}
use Rattle.hd_ages.proofs.due_rows.DueRows.next.Given as goal

abbrev pub invariant-loop-self : goal.invariant-loop-self
invariant-loop-self g l = record {
  on : IsOn l.seg l.self;
  slots : slots_to_come l.seg l.ages l.self ≡ slots_to_come l.seg l.ages l.initial.self;
  steps : l.steps + length (clumps_to_come l.seg l.ages l.self)
      ≡ l.initial.steps + length (clumps_to_come l.seg l.ages l.initial.self);
}

abbrev pub decreases-loop-self : goal.decreases-loop-self
decreases-loop-self g l = length (blocks_to_come l.seg l.self)
