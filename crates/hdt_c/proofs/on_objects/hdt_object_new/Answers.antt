use Rattle.std.proofs.Common.{inl, refl, sym}
use Rattle.hd_host.proofs.CallTurns.{turn_replied}
use Rattle.hdt_c.proofs.Comings.{leaves_by, own_context, ran_own, ran_shared, shut, turn_by, was_busy, wrong_own, wrong_shared}
use Rattle.hdt_c.proofs.on_objects.hdt_object_new.Goals as goal

pub returns-in_default : goal.returns-in_default
returns-in_default c = shut refl (sym c.in_default.ensures.value) c.take.ensures.closed refl

pub returns-then-not-is_object : goal.returns-then-not-is_object
returns-then-not-is_object c =
    wrong_own c.in-Some.ensures.value c.deref_mut.ensures.value c.in-Own.is c.put.ensures
    c.contexts.ensures.value c.if-not-is_object.ensures.no refl

pub returns-then-not-is_object-2 : goal.returns-then-not-is_object-2
returns-then-not-is_object-2 c =
    wrong_shared c.in-Some.ensures.value c.deref_mut.ensures.value c.in-Shared.is c.shared.view_is
    c.put-then-not-is_object-2.ensures c.contexts-in-Shared.ensures c.if-not-is_object-2.ensures.no refl

pub returns-then-not-enter : goal.returns-then-not-enter
returns-then-not-enter c =
    was_busy c.in-Some.ensures.value c.deref_mut.ensures.value c.in-Shared.is c.shared.view_is
    c.if-not-enter.ensures.busy c.put-then-not-enter.ensures c.contexts-in-Shared.ensures
    c.if-not-is_object-2.ensures.yes refl

pub leave-requires-clause-turn : goal.leave-requires-clause-turn
leave-requires-clause-turn c =
    leaves_by c.if-not-enter.ensures.taken c.host.ensures.value (turn_by (λ did. turn_replied
    _ _ (inl (own_context _ _ c.first.ensures.value c.contexts-in-Shared.ensures
    c.if-not-is_object-2.ensures.yes.0.0)) did.1) c.object_new-status-in-Shared.ensures)

pub returns-else-not-is_object : goal.returns-else-not-is_object
returns-else-not-is_object c =
    ran_own c.in-Some.ensures.value c.deref_mut.ensures.value c.in-Own.is c.put-in-Own.ensures
    c.contexts.ensures.value c.if-not-is_object.ensures.yes c.object_new-status.ensures

pub returns-else-not-enter : goal.returns-else-not-enter
returns-else-not-enter c =
    ran_shared c.in-Some.ensures.value c.deref_mut.ensures.value c.in-Shared.is c.shared.view_is
    c.put-in-Shared.ensures c.contexts-in-Shared.ensures c.if-not-is_object-2.ensures.yes
    c.first.ensures.value c.if-not-enter.ensures.taken c.leave.ensures c.host.ensures.value
    c.object_new-status-in-Shared.ensures
