use Rattle.std.proofs.Common.{Some, ap, refl, sym, ◌∙◌}
use Rattle.hdt_c.proofs.Comings.{ran_own, shut, went_on, wrong_own}
use Rattle.hdt_c.proofs.on_objects.hdt_field_get.Goals as goal

pub returns-in_default : goal.returns-in_default
returns-in_default c = shut refl (sym c.in_default.ensures.value) c.take.ensures.closed refl

pub returns-then-not-has_locals : goal.returns-then-not-has_locals
returns-then-not-has_locals c =
    wrong_own c.in-Some.ensures.value c.deref_mut.ensures.value c.in-Own.is c.put.ensures
    c.contexts.ensures.value c.if-not-has_locals.ensures.no refl

pub returns-else-not-has_locals : goal.returns-else-not-has_locals
returns-else-not-has_locals c =
    ran_own c.in-Some.ensures.value c.deref_mut.ensures.value c.in-Own.is c.put-in-Own.ensures
    c.contexts.ensures.value c.if-not-has_locals.ensures.yes c.field_get-status.ensures

pub returns-in-Shared : goal.returns-in-Shared
returns-in-Shared c =
    went_on (c.put-in-Shared.ensures ∙ ap Some c.deref_mut.ensures.value ∙ c.in-Some.ensures.value)
    c.field_get_shared.ensures
