use Rattle.std.proofs.Common.{arith, subst, sym, ◌≡◌}
use mathlib.Core.Logic.{inr}
use Rattle.hd_view.specs.Cause.{IsCause, end_counts, end_too_early}
use Rattle.hd_view.specs.declared.cause.Cause.TheVariants as cause
use Rattle.hd_view.proofs.OrderCauses.{passed_line}
use Rattle.hd_view.proofs.cause.end_cause.Goals as goal

pub returns-then-left-gt0 : goal.returns-then-left-gt0
returns-then-left-gt0 c = λ line end begins wrong.
    subst (λ n. IsCause c.args.before.now line (cause.EndTooEarly n)) (sym c.left-left.ensures) (record {
      holds = end_too_early begins (omega (arith, c.if-left-gt0.true, c.left-left.ensures));
      first = passed_line 3 (omega arith) (λ _. c.requires) (λ _. end);
    })

pub returns-else-left-gt0 : goal.returns-else-left-gt0
returns-else-left-gt0 c = λ line end begins wrong.
    let none : c.args.before.now.left ≡ 0 = omega (arith, c.if-left-gt0.false, c.left-left.ensures) in
    record {
      holds = end_counts begins none
          (λ same. wrong (inr (record { going = c.requires; none = none; text = same })));
      first = passed_line 3 (omega arith) (λ _. c.requires) (λ _. end);
    }
