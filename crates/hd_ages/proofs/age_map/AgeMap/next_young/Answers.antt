use Rattle.hd_ages.proofs.Basics.{HOST_BLOCKS, arith}
use Rattle.hd_ages.proofs.YoungBlocks.{all_small, next_above, next_few, next_high, next_low, next_none}
use Rattle.hd_ages.proofs.age_map.AgeMap.next_young.Goals as goal

pub returns-then-n-eq0-clause-low : goal.returns-then-n-eq0-clause-low
returns-then-n-eq0-clause-low c =
    next_low c.if-n-eq0.true c.self.view_is c.self.invariant.4 c.args.after
    c.least_from.result c.least_from.ensures.found

pub returns-then-n-eq0-clause-high : goal.returns-then-n-eq0-clause-high
returns-then-n-eq0-clause-high c =
    next_high c.if-n-eq0.true c.self.view_is c.self.invariant.4 c.args.after
    c.least_from.result c.least_from.ensures.found

pub returns-then-n-eq0-clause-few : goal.returns-then-n-eq0-clause-few
returns-then-n-eq0-clause-few c =
    next_few c.if-n-eq0.true c.self.view_is c.self.invariant.4 c.args.after HOST_BLOCKS c.self.invariant.0
    c.least_from.result c.least_from.ensures.found

pub returns-then-n-eq0-clause-above : goal.returns-then-n-eq0-clause-above
returns-then-n-eq0-clause-above c =
    next_above c.if-n-eq0.true c.self.view_is c.self.invariant.4 c.args.after
    c.least_from.result c.least_from.ensures.found

pub returns-then-n-eq0-clause-none : goal.returns-then-n-eq0-clause-none
returns-then-n-eq0-clause-none c =
    next_none c.if-n-eq0.true c.self.view_is c.self.invariant.4 c.args.after
    c.least_from.result c.least_from.ensures.none

pub returns-then-n-eq0-clause-ages : goal.returns-then-n-eq0-clause-ages
returns-then-n-eq0-clause-ages c = all_small c.if-n-eq0.true c.self.view_is c.self.invariant.4

pub returns-else-n-eq0-clause-low : goal.returns-else-n-eq0-clause-low
returns-else-n-eq0-clause-low c =
    next_low {n = c.args.n} (omega (arith, c.requires.young, c.if-n-eq0.false)) c.self.view_is c.self.invariant.5 c.args.after
    c.least_from-else-n-eq0.result c.least_from-else-n-eq0.ensures.found

pub returns-else-n-eq0-clause-high : goal.returns-else-n-eq0-clause-high
returns-else-n-eq0-clause-high c =
    next_high {n = c.args.n} (omega (arith, c.requires.young, c.if-n-eq0.false)) c.self.view_is c.self.invariant.5 c.args.after
    c.least_from-else-n-eq0.result c.least_from-else-n-eq0.ensures.found

pub returns-else-n-eq0-clause-few : goal.returns-else-n-eq0-clause-few
returns-else-n-eq0-clause-few c =
    next_few {n = c.args.n} (omega (arith, c.requires.young, c.if-n-eq0.false)) c.self.view_is c.self.invariant.5 c.args.after HOST_BLOCKS c.self.invariant.0
    c.least_from-else-n-eq0.result c.least_from-else-n-eq0.ensures.found

pub returns-else-n-eq0-clause-above : goal.returns-else-n-eq0-clause-above
returns-else-n-eq0-clause-above c =
    next_above (omega (arith, c.requires.young, c.if-n-eq0.false)) c.self.view_is c.self.invariant.5 c.args.after
    c.least_from-else-n-eq0.result c.least_from-else-n-eq0.ensures.found

pub returns-else-n-eq0-clause-none : goal.returns-else-n-eq0-clause-none
returns-else-n-eq0-clause-none c =
    next_none (omega (arith, c.requires.young, c.if-n-eq0.false)) c.self.view_is c.self.invariant.5 c.args.after
    c.least_from-else-n-eq0.result c.least_from-else-n-eq0.ensures.none

pub returns-else-n-eq0-clause-ages : goal.returns-else-n-eq0-clause-ages
returns-else-n-eq0-clause-ages c = all_small {n = c.args.n} (omega (arith, c.requires.young, c.if-n-eq0.false)) c.self.view_is c.self.invariant.5
