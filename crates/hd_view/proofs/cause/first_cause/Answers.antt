use Rattle.std.proofs.Common.{List, ap, arith, sym, ℕ, ◌∙◌, true≢false}
use Rattle.hd_view.specs.Cause.{after_end, no_end}
use Rattle.hd_view.specs.Stated.{begins}
use Rattle.hd_view.proofs.OrderCauses.{passed_line}
use Rattle.hd_view.proofs.cause.first_cause.Goals as goal

pub returns-then-is_ended : goal.returns-then-is_ended
returns-then-is_ended c = record {
  holds = after_end (sym c.is_ended.ensures ∙ c.if-is_ended.true);
  first = passed_line 1 (omega arith) (λ less. absurd (omega (arith, less))) (λ less. absurd (omega (arith, less)));
}

pub returns-then-not-has_end : goal.returns-then-not-has_end
returns-then-not-has_end c = record {
  holds = no_end (λ has. true≢false (sym (c.has_end.ensures.1 has) ∙ c.if-not-has_end.true));
  first = passed_line 2 (omega arith) (λ _. sym c.is_ended.ensures ∙ c.if-is_ended.false)
      (λ less. absurd (omega (arith, less)));
}

pub end_cause-requires : goal.end_cause-requires
end_cause-requires c = sym c.is_ended.ensures ∙ c.if-is_ended.false

pub returns-then-begins : goal.returns-then-begins
returns-then-begins c =
    let text = ap (λ (t : List ℕ). begins c.args.line.now t) c.as_bytes.ensures.value in
    c.end_cause.ensures c.args.line.now (c.has_end.ensures.0 c.if-not-has_end.false)
    (sym text ∙ sym c.begins.ensures ∙ c.if-begins.true) c.requires.wrong

pub line_cause-requires-clause-going : goal.line_cause-requires-clause-going
line_cause-requires-clause-going c = sym c.is_ended.ensures ∙ c.if-is_ended.false

pub line_cause-requires-clause-end : goal.line_cause-requires-clause-end
line_cause-requires-clause-end c = c.has_end.ensures.0 c.if-not-has_end.false

pub line_cause-requires-clause-begins : goal.line_cause-requires-clause-begins
line_cause-requires-clause-begins c =
    let text = ap (λ (t : List ℕ). begins c.args.line.now t) c.as_bytes.ensures.value in
    sym text ∙ sym c.begins.ensures ∙ c.if-begins.false
