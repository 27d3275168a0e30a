use Rattle.hd_plan.proofs.CommitRewrites.{carded_next}
use Rattle.hd_plan.proofs.rewriting.rewrite_carded.Goals as goal

pub loop-at-preserved : goal.loop-at-preserved
loop-at-preserved g c =
    carded_next c.args.n c.loop-at.after c.loop-at.invariant c.in-Some.at c.in-Some.ensures.walk
    c.rewrite_fields.new.self c.rewrite_fields.ensures
