use Rattle.std.proofs.Common.{arith, sym}
use Rattle.std.proofs.lemmas.Bool.{eqb-true, true≢false}
use Rattle.hd_view.proofs.RowCauses.{least_is, none_least}
use Rattle.hd_view.proofs.cause.is_least.Goals as goal

pub returns-in-Some-clause-least : goal.returns-in-Some-clause-least
returns-in-Some-clause-least c =
    least_is c.args.before.now c.args.block c.in-Some.least c.in-Some.ensures.found

pub returns-in-Some-clause-few : goal.returns-in-Some-clause-few
returns-in-Some-clause-few c = λ same.
    let is = eqb-true c.in-Some.least c.args.block same in
    omega (arith, is, c.in-Some.ensures.few)

pub returns-in-None-clause-least : goal.returns-in-None-clause-least
returns-in-None-clause-least c =
    (λ no. absurd (true≢false (sym no)), λ least. absurd (none_least c.args.before.now c.args.block c.in-None.ensures.none least))
