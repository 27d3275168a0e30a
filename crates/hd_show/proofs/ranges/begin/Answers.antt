use Rattle.hd_show.proofs.RangeSteps.{begins}
use Rattle.hd_show.proofs.ranges.begin.Goals as goal

pub returns : goal.returns
returns c =
    begins c.args.text.now c.push_range.new.text c.push.new.self c.args.range c.args.number c.requires
    c.in_ok-push_range.ensures c.in_ok-push.ensures
