use Rattle.hd_plan.proofs.Basics.{HasClosedFields, ap, object_at, subst, sym}
use Rattle.hd_plan.proofs.CommitCards.{carded_step, names_alike}
use Rattle.hd_plan.proofs.carding.card_kept.Goals as goal

pub card_if_needed-requires-clause-fields : goal.card_if_needed-requires-clause-fields
card_if_needed-requires-clause-fields c =
    subst HasClosedFields (sym (ap object_at c.loop-object.invariant.same)) c.requires.fields

pub card_if_needed-requires-clause-with_free : goal.card_if_needed-requires-clause-with_free
card_if_needed-requires-clause-with_free c = λ with_free kept names.
    c.requires.with_free c.loop-object.object-index c.loop-object-test.true with_free kept
    (names_alike (ap object_at c.loop-object.invariant.same) names)

pub loop-object-preserved : goal.loop-object-preserved
loop-object-preserved c =
    carded_step c.loop-object.invariant c.card_if_needed.new.heap c.card_if_needed.ensures
