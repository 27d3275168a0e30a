use Rattle.std.proofs.Common.{inl, refl, sym}
use Rattle.hd_host.proofs.CallTurns.{turn_replied}
use Rattle.hdt_c.proofs.Comings.{leaves_by, own_context, ran_own, ran_shared, shut, turn_by, was_busy, wrong_own, wrong_shared}
use Rattle.hdt_c.proofs.on_objects.field_get_shared.Goals as goal

pub returns-in_default : goal.returns-in_default
returns-in_default c = shut refl (sym c.in_default.ensures.value) c.take.ensures.closed refl

pub returns-then-not-has_locals : goal.returns-then-not-has_locals
returns-then-not-has_locals c =
    wrong_own c.in-Some.ensures.value c.deref_mut.ensures.value c.in-Own.is c.put.ensures
    c.contexts.ensures.value c.if-not-has_locals.ensures.no refl

pub returns-then-not-has_locals-2 : goal.returns-then-not-has_locals-2
returns-then-not-has_locals-2 c =
    wrong_shared c.in-Some.ensures.value c.deref_mut.ensures.value c.in-Shared.is c.shared.view_is
    c.put-then-not-has_locals-2.ensures c.contexts-in-Shared.ensures c.if-not-has_locals-2.ensures.no refl

pub returns-then-not-enter : goal.returns-then-not-enter
returns-then-not-enter c =
    was_busy c.in-Some.ensures.value c.deref_mut.ensures.value c.in-Shared.is c.shared.view_is
    c.if-not-enter.ensures.busy c.put-then-not-enter.ensures c.contexts-in-Shared.ensures
    c.if-not-has_locals-2.ensures.yes refl

pub leave-requires-clause-turn : goal.leave-requires-clause-turn
leave-requires-clause-turn c =
    leaves_by c.if-not-enter.ensures.taken c.host.ensures.value (turn_by (λ did. turn_replied
    _ _ (inl (own_context _ _ c.first.ensures.value c.contexts-in-Shared.ensures
    c.if-not-has_locals-2.ensures.yes.0)) did.1) c.field_get-status-in-Shared.ensures)

pub returns-else-not-has_locals : goal.returns-else-not-has_locals
returns-else-not-has_locals c =
    ran_own c.in-Some.ensures.value c.deref_mut.ensures.value c.in-Own.is c.put-in-Own.ensures
    c.contexts.ensures.value c.if-not-has_locals.ensures.yes c.field_get-status.ensures

pub returns-else-not-enter : goal.returns-else-not-enter
returns-else-not-enter c =
    ran_shared c.in-Some.ensures.value c.deref_mut.ensures.value c.in-Shared.is c.shared.view_is
    c.put-in-Shared.ensures c.contexts-in-Shared.ensures c.if-not-has_locals-2.ensures.yes
    c.first.ensures.value c.if-not-enter.ensures.taken c.leave.ensures c.host.ensures.value
    c.field_get-status-in-Shared.ensures
