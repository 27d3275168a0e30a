use Rattle.hd_plan.proofs.CommitReleases.{removed_step}
use Rattle.hd_plan.proofs.releasing.remove_left.Goals as goal

pub loop-object-preserved : goal.loop-object-preserved
loop-object-preserved c =
    removed_step c.loop-object.invariant c.remove_if_left.new.heap c.remove_if_left.ensures.stays
    c.remove_if_left.ensures.whole c.remove_if_left.ensures.left
