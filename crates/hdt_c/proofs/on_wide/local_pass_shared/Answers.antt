use Rattle.std.proofs.Common.{refl, sym, ◌+◌, ◌∙◌}
use Rattle.hdt_c.proofs.WideTurns.{turn_passed}
use Rattle.hdt_c.proofs.Comings.{leaves_by, own_context_in, ran_own, ran_shared, shut, turn_by, was_busy, wrong_own, wrong_shared}
use Rattle.hdt_c.proofs.on_wide.local_pass_shared.Goals as goal

pub returns-in_default : goal.returns-in_default
returns-in_default c = shut refl (sym c.in_default.ensures.value) c.take.ensures.closed refl

pub returns-then-not-has_both : goal.returns-then-not-has_both
returns-then-not-has_both c =
    wrong_own c.in-Some.ensures.value c.deref_mut.ensures.value c.in-Own.is c.put.ensures
    c.contexts.ensures.value c.if-not-has_both.ensures.no refl

pub returns-then-not-has_both-2 : goal.returns-then-not-has_both-2
returns-then-not-has_both-2 c =
    wrong_shared c.in-Some.ensures.value c.deref_mut.ensures.value c.in-Shared.is c.shared.view_is
    c.put-then-not-has_both-2.ensures c.contexts-in-Shared.ensures c.if-not-has_both-2.ensures.no refl

pub returns-then-not-enter : goal.returns-then-not-enter
returns-then-not-enter c =
    was_busy c.in-Some.ensures.value c.deref_mut.ensures.value c.in-Shared.is c.shared.view_is
    c.if-not-enter.ensures.busy c.put-then-not-enter.ensures c.contexts-in-Shared.ensures
    c.if-not-has_both-2.ensures.yes refl

pub leave-requires-clause-turn : goal.leave-requires-clause-turn
leave-requires-clause-turn c =
    leaves_by c.if-not-enter.ensures.taken c.host.ensures.value (turn_by (λ did.
    turn_passed _ _ (c.first.result + c.args.to) (c.first-in-Shared.result + c.args.from)
    c.args.dst c.args.src (own_context_in c.if-not-enter.ensures.taken c.host.ensures.value
    c.first.ensures.value c.contexts-in-Shared.ensures c.if-not-has_both-2.ensures.yes.0.0)
    (own_context_in c.if-not-enter.ensures.taken c.host.ensures.value
    c.first-in-Shared.ensures.value c.contexts-in-Shared.ensures c.if-not-has_both-2.ensures.yes.1.0) did.0)
    c.local_pass-status-in-Shared.ensures)

pub returns-else-not-has_both : goal.returns-else-not-has_both
returns-else-not-has_both c =
    ran_own c.in-Some.ensures.value c.deref_mut.ensures.value c.in-Own.is c.put-in-Own.ensures
    c.contexts.ensures.value c.if-not-has_both.ensures.yes c.local_pass-status.ensures

pub returns-else-not-enter : goal.returns-else-not-enter
returns-else-not-enter c =
    ran_shared c.in-Some.ensures.value c.deref_mut.ensures.value c.in-Shared.is c.shared.view_is
    c.put-in-Shared.ensures c.contexts-in-Shared.ensures c.if-not-has_both-2.ensures.yes
    c.first.ensures.value c.if-not-enter.ensures.taken c.leave.ensures c.host.ensures.value
    (rw (c.first-in-Shared.ensures.value ∙ sym c.first.ensures.value)
    at c.local_pass-status-in-Shared.ensures)
