use Rattle.hd_plan.proofs.CommitReleases.{settled_step}
use Rattle.hd_plan.proofs.releasing.settle_regions.Goals as goal

pub loop-condemned-preserved : goal.loop-condemned-preserved
loop-condemned-preserved c =
    settled_step c.loop-condemned.invariant c.loop-condemned-test.true c.requires.rising c.requires.held
    c.settle_region.new.heap c.settle_region.ensures.stays c.settle_region.ensures.given_up
