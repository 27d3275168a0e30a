use Rattle.std.proofs.Common.{subst, sym, ◌∙◌, true≢false}
use Rattle.hd_model.specs.State.{IsFree}
use Rattle.hd_model.specs.Step.{MayGive}
use Rattle.hd_view.proofs.RowCauses.{blocks_missing, given_reads, grown_by, kind_differs, no_entry, no_slot}
use Rattle.hd_view.proofs.cause.free_cause.Goals as goal

pub returns-then-not-any_free : goal.returns-then-not-any_free
returns-then-not-any_free c = λ p d slot_is zero.
    blocks_missing c.args.before.now p c.args.kind d zero
    (λ free. true≢false (sym (c.any_free.ensures.1 free) ∙ c.if-not-any_free.true))

pub returns-in_default : goal.returns-in_default
returns-in_default c = λ p d slot_is zero.
    let k = c.args.before.now in
    let free = c.any_free.ensures.0 c.if-not-any_free.false in
    no_slot k p c.args.kind d (grown_by k p c.args.kind d free.0
    (subst (λ g. MayGive k.numbers k.state c.args.kind g free.0) (sym zero) free.1)) (slot_is ∙ c.in_default.is)

pub returns-then-is_free : goal.returns-then-is_free
returns-then-is_free c = λ p d slot_is zero.
    let k = c.args.before.now in
    given_reads k p c.args.kind d c.in-Some.slot (slot_is ∙ c.in-Some.is)
    (subst (λ g. MayGive k.numbers k.state c.args.kind g c.in-Some.slot) (sym zero)
    (c.is_free.ensures.0 c.if-is_free.true))

pub returns-then-is_taken : goal.returns-then-is_taken
returns-then-is_taken c = λ p d slot_is zero line is wrong.
    let k = c.args.before.now in
    let free = c.any_free.ensures.0 c.if-not-any_free.false in (
      grown_by k p c.args.kind d free.0
          (subst (λ g. MayGive k.numbers k.state c.args.kind g free.0) (sym zero) free.1),
      (
        zero,
        no_entry k p c.args.kind d c.in-Some.slot (slot_is ∙ c.in-Some.is) zero
            (λ its. true≢false (sym (c.is_free.ensures.1 its) ∙ c.if-is_free.false)),
        c.is_taken.ensures.0 c.if-is_taken.true,
      ),
    )

pub returns-else-is_taken : goal.returns-else-is_taken
returns-else-is_taken c = λ p d slot_is zero line is wrong.
    let k = c.args.before.now in
    let free = c.any_free.ensures.0 c.if-not-any_free.false in
    let taken : IsFree k.state c.args.kind c.in-Some.slot → ⊥ =
    λ its. true≢false (sym (c.is_free.ensures.1 its) ∙ c.if-is_free.false) in (
      grown_by k p c.args.kind d free.0
          (subst (λ g. MayGive k.numbers k.state c.args.kind g free.0) (sym zero) free.1),
      (
        zero,
        no_entry k p c.args.kind d c.in-Some.slot (slot_is ∙ c.in-Some.is) zero taken,
        d.next.due,
        kind_differs k.state c.args.kind c.in-Some.slot taken
            (λ its. true≢false (sym (c.is_taken.ensures.1 its) ∙ c.if-is_taken.false)),
      ),
    )
