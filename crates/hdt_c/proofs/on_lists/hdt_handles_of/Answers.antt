use Rattle.std.proofs.Common.{refl, sym}
use Rattle.hd_host.proofs.CallTurns.{turn_unchanged}
use Rattle.hdt_c.proofs.Comings.{leaves_by, ran_own, ran_shared, shut, turn_by, was_busy, wrong}
use Rattle.hdt_c.proofs.on_lists.hdt_handles_of.Goals as goal

pub returns-in_default : goal.returns-in_default
returns-in_default c = shut (refl, refl, refl) (sym c.in_default.ensures.value) c.take.ensures.closed refl

pub returns-then-not-are_kinds : goal.returns-then-not-are_kinds
returns-then-not-are_kinds c =
    wrong (sym c.in-Some.ensures.value) c.put.ensures c.if-not-are_kinds.ensures.no (refl, refl, refl)

pub returns-then-not-enter : goal.returns-then-not-enter
returns-then-not-enter c =
    was_busy c.in-Some.ensures.value c.deref_mut.ensures.value c.in-Shared.is c.shared.view_is
    c.if-not-enter.ensures.busy c.put-then-not-enter.ensures refl c.if-not-are_kinds.ensures.yes
    (refl, refl, refl)

pub leave-requires-clause-turn : goal.leave-requires-clause-turn
leave-requires-clause-turn c =
    leaves_by c.if-not-enter.ensures.taken c.host.ensures.value (turn_by (λ did.
    turn_unchanged _ _ did.0) c.handles_of-status-in-Shared.ensures)

pub returns-in-Own : goal.returns-in-Own
returns-in-Own c =
    ran_own c.in-Some.ensures.value c.deref_mut.ensures.value c.in-Own.is c.put-in-Own.ensures refl
    c.if-not-are_kinds.ensures.yes c.handles_of-status.ensures

pub returns-else-not-enter : goal.returns-else-not-enter
returns-else-not-enter c =
    ran_shared c.in-Some.ensures.value c.deref_mut.ensures.value c.in-Shared.is c.shared.view_is
    c.put-in-Shared.ensures refl c.if-not-are_kinds.ensures.yes refl c.if-not-enter.ensures.taken
    c.leave.ensures c.host.ensures.value c.handles_of-status-in-Shared.ensures
