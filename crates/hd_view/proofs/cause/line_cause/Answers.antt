use Rattle.std.proofs.Common.{arith, refl, sym, ◌≡◌}
use Rattle.hd_view.specs.Cause.{no_line, of_parts}
use Rattle.hd_view.specs.Inside.{parts_in}
use Rattle.hd_view.proofs.CauseFacts.{no_due}
use Rattle.hd_view.proofs.OrderCauses.{of_these, passed, passed_line}
use Rattle.hd_view.proofs.cause.line_cause.Goals as goal

pub returns-in_default : goal.returns-in_default
returns-in_default c = record {
  holds = no_line (sym c.in_default.ensures) c.requires.begins;
  first = passed_line 3 (omega arith) (λ _. c.requires.going) (λ _. c.requires.end);
}

pub returns-then-left-eq0 : goal.returns-then-left-eq0
returns-then-left-eq0 c =
    let none : c.args.before.now.left ≡ 0 = omega (arith, c.if-left-eq0.true, c.left.ensures) in
    let states = sym c.in-Some.ensures in
    record {
      holds = of_parts states none;
      first = λ d low h. passed c.args.before.now c.args.line.now (parts_in c.in-Some.stated) 4 (omega arith) (λ less. absurd (omega (arith, less)))
          (λ less. absurd (omega (arith, less))) (λ less. absurd (omega (arith, less)))
          (λ less. absurd (omega (arith, less))) d low
          (of_these c.requires.going c.requires.end c.requires.begins states d h);
    }

pub returns-then-stated-callers : goal.returns-then-stated-callers
returns-then-stated-callers c =
    let states = sym c.in-Some.ensures in
    record {
      holds = of_parts states (refl, omega (arith, c.if-stated-callers.true, c.callers.ensures.value));
      first = λ d low h. passed c.args.before.now c.args.line.now (parts_in c.in-Some.stated) 5 (omega arith) (λ _ none. omega (arith, c.if-left-eq0.false, c.left.ensures, none))
          (λ less. absurd (omega (arith, less))) (λ less. absurd (omega (arith, less)))
          (λ less. absurd (omega (arith, less))) d low
          (of_these c.requires.going c.requires.end c.requires.begins states d h);
    }

pub returns-in-None : goal.returns-in-None
returns-in-None c =
    let states = sym c.in-Some.ensures in
    record {
      holds = of_parts states
          (refl, no_due c.args.before.now c.args.dues.now c.in-Some.stated.caller c.requires.dues c.in-None.ensures.none);
      first = λ d low h. passed c.args.before.now c.args.line.now (parts_in c.in-Some.stated) 6 (omega arith) (λ _ none. omega (arith, c.if-left-eq0.false, c.left.ensures, none))
          (λ _. omega (arith, c.if-stated-callers.false, c.callers.ensures.value))
          (λ less. absurd (omega (arith, less))) (λ less. absurd (omega (arith, less))) d low
          (of_these c.requires.going c.requires.end c.requires.begins states d h);
    }

pub number_cause-requires-clause-left : goal.number_cause-requires-clause-left
number_cause-requires-clause-left c = λ none. omega (arith, c.if-left-eq0.false, c.left.ensures, none)

pub number_cause-requires-clause-known : goal.number_cause-requires-clause-known
number_cause-requires-clause-known c = omega (arith, c.if-stated-callers.false, c.callers.ensures.value)

pub number_cause-requires-clause-is_due : goal.number_cause-requires-clause-is_due
number_cause-requires-clause-is_due c =
    c.requires.dues.each c.in-Some-find_due.due.now c.in-Some-find_due.ensures.some.0

pub number_cause-requires-clause-caller : goal.number_cause-requires-clause-caller
number_cause-requires-clause-caller c = c.in-Some-find_due.ensures.some.1

pub returns-in-Some-find_due : goal.returns-in-Some-find_due
returns-in-Some-find_due c =
    let states = sym c.in-Some.ensures in
    let its = c.number_cause.ensures c.args.line.now states c.requires.wrong in
    record {
      holds = of_parts states its.0;
      first = λ d low h. its.1 d low (of_these c.requires.going c.requires.end c.requires.begins states d h);
    }
