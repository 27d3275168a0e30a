use Rattle.std.proofs.Common.{Some, ap, sym, ℕ, ◌∙◌}
use Rattle.hd_view.proofs.cause.other_slot.Goals as goal

pub returns-then-idle-own : goal.returns-then-idle-own
returns-then-idle-own c = λ grown each line is wrong. (
  grown,
  (
    c.requires,
    sym c.in-Some.ensures ∙ ap (λ (x : ℕ). Some (record { 0 = x })) c.if-idle-own.true,
    each,
  ),
)

pub returns-else-idle-own : goal.returns-else-idle-own
returns-else-idle-own c = λ grown each line is wrong. (grown, (c.requires, each))

pub returns-in_default : goal.returns-in_default
returns-in_default c = λ grown each line is wrong. (grown, (c.requires, each))
