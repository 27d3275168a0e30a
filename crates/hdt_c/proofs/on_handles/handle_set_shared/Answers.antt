use Rattle.std.proofs.Common.{inr, refl}
use Rattle.hd_host.proofs.CallTurns.{turn_replied_of}
use Rattle.hdt_c.proofs.Comings.{leaves_by, ran_shared, turn_by, was_busy, wrong_shared}
use Rattle.hdt_c.proofs.on_handles.handle_set_shared.Goals as goal

pub returns-then-not-has_local : goal.returns-then-not-has_local
returns-then-not-has_local c =
    wrong_shared refl c.deref_mut.ensures.value c.in-Shared.is c.shared.view_is
    c.put.ensures c.contexts.ensures c.if-not-has_local.ensures.no tt

pub returns-then-not-enter : goal.returns-then-not-enter
returns-then-not-enter c =
    was_busy refl c.deref_mut.ensures.value c.in-Shared.is c.shared.view_is
    c.if-not-enter.ensures.busy c.put-then-not-enter.ensures c.contexts.ensures
    c.if-not-has_local.ensures.yes tt

pub leave-requires-clause-turn : goal.leave-requires-clause-turn
leave-requires-clause-turn c =
    leaves_by c.if-not-enter.ensures.taken c.host.ensures.value (turn_by (λ did.
    turn_replied_of _ _ (inr refl) did.0) c.handle_set-status.ensures)

pub returns : goal.returns
returns c =
    ran_shared refl c.deref_mut.ensures.value c.in-Shared.is c.shared.view_is
    c.put-2.ensures c.contexts.ensures c.if-not-has_local.ensures.yes
    c.first.ensures.value c.if-not-enter.ensures.taken c.leave.ensures c.host.ensures.value
    c.handle_set-status.ensures
