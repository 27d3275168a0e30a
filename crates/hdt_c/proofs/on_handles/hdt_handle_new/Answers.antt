use Rattle.std.proofs.Common.{refl, sym}
use Rattle.hd_host.proofs.CallTurns.{turn_made}
use Rattle.hdt_c.proofs.Comings.{leaves_by, ran_own, ran_shared, shut, turn_by, was_busy, wrong_own, wrong_shared}
use Rattle.hdt_c.proofs.on_handles.hdt_handle_new.Goals as goal

pub returns-in_default : goal.returns-in_default
returns-in_default c = shut refl (sym c.in_default.ensures.value) c.take.ensures.closed refl

pub returns-then-not-is_new_handle : goal.returns-then-not-is_new_handle
returns-then-not-is_new_handle c =
    wrong_own c.in-Some.ensures.value c.deref_mut.ensures.value c.in-Own.is c.put.ensures
    c.contexts.ensures.value c.if-not-is_new_handle.ensures.no refl

pub returns-then-not-is_new_handle-2 : goal.returns-then-not-is_new_handle-2
returns-then-not-is_new_handle-2 c =
    wrong_shared c.in-Some.ensures.value c.deref_mut.ensures.value c.in-Shared.is c.shared.view_is
    c.put-then-not-is_new_handle-2.ensures c.contexts-in-Shared.ensures c.if-not-is_new_handle-2.ensures.no
    refl

pub returns-then-not-enter : goal.returns-then-not-enter
returns-then-not-enter c =
    was_busy c.in-Some.ensures.value c.deref_mut.ensures.value c.in-Shared.is c.shared.view_is
    c.if-not-enter.ensures.busy c.put-then-not-enter.ensures c.contexts-in-Shared.ensures
    c.if-not-is_new_handle-2.ensures.yes refl

pub leave-requires-clause-turn : goal.leave-requires-clause-turn
leave-requires-clause-turn c =
    leaves_by c.if-not-enter.ensures.taken c.host.ensures.value (turn_by (λ did. turn_made _
    _ did.2) c.handle_new-status-in-Shared.ensures)

pub returns-else-not-is_new_handle : goal.returns-else-not-is_new_handle
returns-else-not-is_new_handle c =
    ran_own c.in-Some.ensures.value c.deref_mut.ensures.value c.in-Own.is c.put-in-Own.ensures
    c.contexts.ensures.value c.if-not-is_new_handle.ensures.yes c.handle_new-status.ensures

pub returns-else-not-enter : goal.returns-else-not-enter
returns-else-not-enter c =
    ran_shared c.in-Some.ensures.value c.deref_mut.ensures.value c.in-Shared.is c.shared.view_is
    c.put-in-Shared.ensures c.contexts-in-Shared.ensures c.if-not-is_new_handle-2.ensures.yes
    c.first.ensures.value c.if-not-enter.ensures.taken c.leave.ensures c.host.ensures.value
    c.handle_new-status-in-Shared.ensures
