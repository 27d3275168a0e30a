use Rattle.std.proofs.Common.{ap, arith, sym, ◌∙◌}
use Rattle.std.proofs.lemmas.Option.{none-some}
use Rattle.hd_audit.specs.Before.{due_of, number_of}
use Rattle.hd_view.specs.Inside.{parts_in}
use Rattle.hd_view.proofs.OrderCauses.{none_first, passed}
use Rattle.hd_view.proofs.cause.number_cause.Goals as goal

pub returns-then-stated-due : goal.returns-then-stated-due
returns-then-stated-due c = λ line is wrong. (
  (
    c.requires.is_due.number_is ∙ ap (number_of c.args.before.now) c.requires.caller,
    c.if-stated-due.true,
  ),
  passed c.args.before.now line (parts_in c.args.stated) 7 (omega arith) (λ _. c.requires.left) (λ _. c.requires.known)
      (λ _ none. none-some c.args.due.now.cmd (sym none
      ∙ ap (due_of c.args.before.now) (sym c.requires.caller) ∙ c.requires.is_due.due_is))
      (λ less. absurd (omega (arith, less))),
)

pub due_cause-requires : goal.due_cause-requires
due_cause-requires c = record {
  is_due = c.requires.is_due;
  caller = c.requires.caller;
  number = sym c.if-stated-due.false;
}

pub returns : goal.returns
returns c = λ line is wrong.
    let holds = c.due_cause.ensures line is wrong in (
      holds,
      none_first c.args.before.now line (parts_in c.args.stated) c.due_cause.result holds
          (passed c.args.before.now line (parts_in c.args.stated) 8 (omega arith) (λ _. c.requires.left) (λ _. c.requires.known)
          (λ _ none. none-some c.args.due.now.cmd (sym none
          ∙ ap (due_of c.args.before.now) (sym c.requires.caller) ∙ c.requires.is_due.due_is))
          (λ _. c.if-stated-due.false ∙ c.requires.is_due.number_is
          ∙ ap (number_of c.args.before.now) c.requires.caller)),
    )
