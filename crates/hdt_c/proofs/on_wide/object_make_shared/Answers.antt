use Rattle.std.proofs.Common.{refl}
use Rattle.hdt_c.proofs.WideTurns.{turn_filled}
use Rattle.hdt_c.proofs.Comings.{leaves_by, own_context_in, ran_shared, turn_by, was_busy, wrong_shared}
use Rattle.hdt_c.proofs.on_wide.object_make_shared.Goals as goal

pub returns-then-not-is_filled : goal.returns-then-not-is_filled
returns-then-not-is_filled c =
    wrong_shared refl c.deref_mut.ensures.value c.in-Shared.is c.shared.view_is
    c.put.ensures c.contexts.ensures c.if-not-is_filled.ensures.no refl

pub returns-then-not-enter : goal.returns-then-not-enter
returns-then-not-enter c =
    was_busy refl c.deref_mut.ensures.value c.in-Shared.is c.shared.view_is
    c.if-not-enter.ensures.busy c.put-then-not-enter.ensures c.contexts.ensures
    c.if-not-is_filled.ensures.yes refl

pub leave-requires-clause-turn : goal.leave-requires-clause-turn
leave-requires-clause-turn c =
    leaves_by c.if-not-enter.ensures.taken c.host.ensures.value (turn_by (λ did.
    turn_filled _ _ (own_context_in c.if-not-enter.ensures.taken c.host.ensures.value
    c.first.ensures.value c.contexts.ensures c.if-not-is_filled.ensures.yes.0.0)
    c.if-not-is_filled.ensures.yes.2 did.1) c.object_make-status.ensures)

pub returns : goal.returns
returns c =
    ran_shared refl c.deref_mut.ensures.value c.in-Shared.is c.shared.view_is
    c.put-2.ensures c.contexts.ensures c.if-not-is_filled.ensures.yes
    c.first.ensures.value c.if-not-enter.ensures.taken c.leave.ensures c.host.ensures.value
    c.object_make-status.ensures
