use Rattle.std.proofs.Common.{refl}
use Rattle.hd_host.proofs.CallTurns.{turn_freed}
use Rattle.hdt_c.proofs.Comings.{leaves_by, ran_shared, turn_by, was_busy}
use Rattle.hdt_c.proofs.on_handles.handle_free_shared.Goals as goal

pub returns-then-not-enter : goal.returns-then-not-enter
returns-then-not-enter c =
    was_busy refl c.deref_mut.ensures.value c.in-Shared.is c.shared.view_is
    c.if-not-enter.ensures.busy c.put.ensures refl tt tt

pub leave-requires-clause-turn : goal.leave-requires-clause-turn
leave-requires-clause-turn c =
    leaves_by c.if-not-enter.ensures.taken c.host.ensures.value (turn_by (λ did. turn_freed _
    _ did.0) c.handle_free-status.ensures)

pub returns : goal.returns
returns c =
    ran_shared refl c.deref_mut.ensures.value c.in-Shared.is c.shared.view_is
    c.put-2.ensures refl tt refl c.if-not-enter.ensures.taken c.leave.ensures
    c.host.ensures.value c.handle_free-status.ensures
