use Rattle.std.proofs.Common.{arith, subst, sym, ⊎_elim, true≢false, ◌∙◌, ◌≡◌}
use Rattle.std.proofs.lemmas.Bool.{cases_lt}
use Rattle.hd_view.proofs.sets.first_of.Goals as goal

pub loop-number-init : goal.loop-number-init
loop-number-init g c = λ x less. absurd (omega (arith, less))

pub returns-then-has : goal.returns-then-has
returns-then-has g c = c.has.ensures.0 c.if-has.true

pub loop-number-preserved : goal.loop-number-preserved
loop-number-preserved g c = λ x less tells.
    ⊎_elim (λ before. c.loop-number.invariant x before tells)
    (λ here.
    let at : x ≡ c.loop-number.number = omega (arith, here, less) in
    true≢false (sym (c.has.ensures.1 (subst (g.T.Test.tells c.args.test.now) at tells)) ∙ c.if-has.false))
    (cases_lt x c.loop-number.number)

pub returns : goal.returns
returns g c = λ x less. c.loop-number.invariant x (omega (arith, less))
