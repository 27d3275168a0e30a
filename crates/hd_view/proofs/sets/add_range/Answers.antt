use Rattle.std.proofs.Common.{[], ◌++◌, ◌∷◌, ◌≡◌, ◌≤◌}
use Rattle.std.proofs.lemmas.Result.{IfOk-weaker}
use Rattle.hd_view.specs.Inside.{Adds}
use Rattle.hd_view.specs.declared.sets.Range.{Range}
use Rattle.hd_view.proofs.RangeSets.{behind_in, longer_in}
use Rattle.hd_view.proofs.sets.add_range.Goals as goal

pub returns-in-Some : goal.returns-in-Some
returns-in-Some c =
    let old = c.args.ranges.now.items in
    let rest = c.pop.new.self.items in
    let new = c.push.new.items.items in
    let meets = c.meets.ensures.0 c.if-meets.true in
    IfOk-weaker c.push.result (λ _. new ≡ rest ++ c.longer.result ∷ [])
    (λ _. Adds old new (λ x. (c.args.first ≤ x) × (x ≤ c.args.last)))
    (λ _ is. longer_in old rest new c.in-Some.before c.longer.result c.args.first c.args.last
    c.in-Some.ensures.items meets.0 meets.1 c.longer.ensures is)
    c.push.ensures

pub returns-in_ok-push-in-Some-2 : goal.returns-in_ok-push-in-Some-2
returns-in_ok-push-in-Some-2 c =
    let old = c.args.ranges.now.items in
    let again = c.push-in-Some-2.new.items.items in
    let new = c.push-in-Some-2-2.new.items.items in
    let added : Range = record { first = c.args.first; last = c.args.last } in
    IfOk-weaker c.push-in-Some-2-2.result (λ _. new ≡ again ++ added ∷ [])
    (λ _. Adds old new (λ x. (c.args.first ≤ x) × (x ≤ c.args.last)))
    (λ _ is. behind_in old c.pop.new.self.items again new c.in-Some.before added c.in-Some.ensures.items
    c.in_ok-push-in-Some-2.ensures is)
    c.push-in-Some-2-2.ensures
