use Rattle.hd_cwt.proofs.Basics.{Some, arith, entry_at, refl, rules, ◌≢◌}
use Rattle.hd_cwt.proofs.KeySearch.{looked_all, low, nowhere, onward, start}
use Rattle.hd_cwt.proofs.entries.search.Goals as goal

pub loop-at-init : goal.loop-at-init
loop-at-init g c = start c.requires.bucket _ c.args.steps.now refl

pub bounds-held-at : goal.bounds-held-at
bounds-held-at g c = low c.loop-at.invariant c.loop-at-test.true

pub bounds-next-at : goal.bounds-next-at
bounds-next-at g c =
    omega (arith, low c.loop-at.invariant c.loop-at-test.true, c.requires.within.0, c.requires.within.1)

pub loop-at-preserved : goal.loop-at-preserved
loop-at-preserved g c =
    let missed : entry_at c.args.held.now c.loop-at.at ≢ Some (Some c.args.key) = search rules in
    onward c.loop-at.invariant c.loop-at-test.true missed _ _ (omega arith) c.tick.ensures

pub returns-clause-none : goal.returns-clause-none
returns-clause-none g c = nowhere c.loop-at.invariant c.loop-at-test.false c.requires.within.0

pub returns-clause-steps : goal.returns-clause-steps
returns-clause-steps g c = looked_all c.loop-at.invariant c.loop-at-test.false c.requires.within.0
