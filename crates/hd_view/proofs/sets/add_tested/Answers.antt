use Rattle.std.proofs.Common.{sym, true≢false, ◌∙◌, ◌≡◌, ◌≤◌}
use Rattle.std.proofs.lemmas.Result.{IfOk-weaker}
use Rattle.hd_view.specs.Inside.{Adds}
use Rattle.hd_view.proofs.RangeSets.{fails, passes}
use Rattle.hd_view.proofs.sets.add_tested.Goals as goal

pub returns-then-has : goal.returns-then-has
returns-then-has g c =
    let tells = g.T.Test.tells c.args.test.now in
    let n = c.args.number in
    let old = c.args.ranges.now.items in
    let new = c.add_range.new.ranges.items in
    IfOk-weaker c.add_range.result (λ _. Adds old new (λ x. (n ≤ x) × (x ≤ n)))
    (λ _. Adds old new (λ x. (x ≡ n) × tells x))
    (λ _ adds. passes tells n old (c.has.ensures.0 c.if-has.true) new adds) c.add_range.ensures

pub returns-else-has : goal.returns-else-has
returns-else-has g c =
    fails (g.T.Test.tells c.args.test.now) c.args.number c.args.ranges.now.items
    (λ holds. true≢false (sym (c.has.ensures.1 holds) ∙ c.if-has.false))
