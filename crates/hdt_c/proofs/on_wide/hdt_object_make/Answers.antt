use Rattle.std.proofs.Common.{Some, ap, refl, sym, ◌∙◌}
use Rattle.hdt_c.proofs.Comings.{ran_own, shut, went_on, wrong_own}
use Rattle.hdt_c.proofs.on_wide.hdt_object_make.Goals as goal

pub returns-in_default : goal.returns-in_default
returns-in_default c = shut refl (sym c.in_default.ensures.value) c.take.ensures.closed refl

pub returns-then-not-is_filled : goal.returns-then-not-is_filled
returns-then-not-is_filled c =
    wrong_own c.in-Some.ensures.value c.deref_mut.ensures.value c.in-Own.is c.put.ensures
    c.contexts.ensures.value c.if-not-is_filled.ensures.no refl

pub returns-else-not-is_filled : goal.returns-else-not-is_filled
returns-else-not-is_filled c =
    ran_own c.in-Some.ensures.value c.deref_mut.ensures.value c.in-Own.is c.put-in-Own.ensures
    c.contexts.ensures.value c.if-not-is_filled.ensures.yes c.object_make-status.ensures

pub object_make_shared-requires-clause-shared : goal.object_make_shared-requires-clause-shared
object_make_shared-requires-clause-shared c = (_, c.in-Shared.is)

pub returns-in-Shared : goal.returns-in-Shared
returns-in-Shared c = went_on (ap Some c.deref_mut.ensures.value ∙ c.in-Some.ensures.value) c.object_make_shared.ensures
