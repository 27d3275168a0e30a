use Rattle.std.proofs.Common.{arith, subst}
use Rattle.hd_view.specs.Inside.{Adds, Between}
use Rattle.hd_view.proofs.RangeSets.{each_more, each_none}
use Rattle.hd_view.proofs.sets.add_each.Goals as goal

pub loop-number-init : goal.loop-number-init
loop-number-init g c = each_none (g.T.Test.tells c.args.test.now) c.args.first c.args.ranges.now.items

pub loop-number-preserved : goal.loop-number-preserved
loop-number-preserved g c =
    each_more (g.T.Test.tells c.args.test.now) c.loop-number.number c.loop-number.ranges.items c.args.first
    c.args.ranges.now.items c.add_tested.new.ranges.items (omega (arith, c.loop-number.auto.number))
    c.loop-number.invariant c.in_ok-add_tested.ensures

pub returns : goal.returns
returns g c =
    subst
    (λ n. Adds c.args.ranges.now.items c.loop-number.ranges.items
    (Between c.args.first n (g.T.Test.tells c.args.test.now)))
    (omega arith) c.loop-number.invariant
