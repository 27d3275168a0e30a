use Rattle.hd_ages.proofs.Basics.{refl}
use Rattle.hd_ages.proofs.WalkSteps.{clumps_at_start, slots_at_start}
use Rattle.hd_ages.proofs.due_rows.DueRows.start.Goals as goal

pub returns-clause-slots : goal.returns-clause-slots
returns-clause-slots c =
    slots_at_start c.args.seg.now c.args.ages.now _ c.first_due.ensures.clumps refl

pub returns-clause-clumps : goal.returns-clause-clumps
returns-clause-clumps c = clumps_at_start c.args.seg.now c.args.ages.now _ c.first_due.ensures.clumps
