use Rattle.std.proofs.Common.{refl, sym}
use Rattle.hd_host.proofs.CallTurns.{turn_unchanged}
use Rattle.hdt_c.proofs.Comings.{leaves_by, ran_own, ran_shared, shut, turn_by, was_busy}
use Rattle.hdt_c.proofs.on_handles.hdt_handle_kind.Goals as goal

pub returns-in_default : goal.returns-in_default
returns-in_default c = shut refl (sym c.in_default.ensures.value) c.take.ensures.closed refl

pub returns-then-not-enter : goal.returns-then-not-enter
returns-then-not-enter c =
    was_busy c.in-Some.ensures.value c.deref_mut.ensures.value c.in-Shared.is c.shared.view_is
    c.if-not-enter.ensures.busy c.put-then-not-enter.ensures refl tt refl

pub leave-requires-clause-turn : goal.leave-requires-clause-turn
leave-requires-clause-turn c =
    leaves_by c.if-not-enter.ensures.taken c.host.ensures.value (turn_by (λ did.
    turn_unchanged _ _ did.0) c.handle_kind-status-in-Shared.ensures)

pub returns-in-Own : goal.returns-in-Own
returns-in-Own c =
    ran_own c.in-Some.ensures.value c.deref_mut.ensures.value c.in-Own.is c.put.ensures refl tt
    c.handle_kind-status.ensures

pub returns-else-not-enter : goal.returns-else-not-enter
returns-else-not-enter c =
    ran_shared c.in-Some.ensures.value c.deref_mut.ensures.value c.in-Shared.is c.shared.view_is
    c.put-in-Shared.ensures refl tt refl c.if-not-enter.ensures.taken c.leave.ensures
    c.host.ensures.value c.handle_kind-status-in-Shared.ensures
