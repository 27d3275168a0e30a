use Rattle.std.proofs.Common.{Some, ap, refl, sym, ◌∙◌}
use Rattle.hdt_c.proofs.Comings.{ran_own, shut, went_on}
use Rattle.hdt_c.proofs.on_handles.hdt_handle_free.Goals as goal

pub returns-in_default : goal.returns-in_default
returns-in_default c = shut tt (sym c.in_default.ensures.value) c.take.ensures.closed refl

pub returns-in-Own : goal.returns-in-Own
returns-in-Own c =
    ran_own c.in-Some.ensures.value c.deref_mut.ensures.value c.in-Own.is c.put.ensures refl tt
    c.handle_free-status.ensures

pub handle_free_shared-requires-clause-shared : goal.handle_free_shared-requires-clause-shared
handle_free_shared-requires-clause-shared c = (_, c.in-Shared.is)

pub returns-in-Shared : goal.returns-in-Shared
returns-in-Shared c = went_on (ap Some c.deref_mut.ensures.value ∙ c.in-Some.ensures.value) c.handle_free_shared.ensures
