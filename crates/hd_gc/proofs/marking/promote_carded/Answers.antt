use Rattle.hd_gc.proofs.Basics.{IsWalk, is_old_carded, subst}
use Rattle.hd_gc.proofs.{CardWalk.carded_next, CardWalk.carded_all, PromoteSteps.may_promote}
use Rattle.hd_gc.proofs.marking.promote_carded.Goals as goal

pub promote_fields-requires-clause-fields : goal.promote_fields-requires-clause-fields
promote_fields-requires-clause-fields c =
    may_promote c.loop-at.invariant.settled c.loop-at.invariant.basis
    (λ y f. c.requires.objects y
    (record { from = c.in-Some.at; carded = c.in-Some.ensures.walk.member; field = f }))

pub loop-at-preserved : goal.loop-at-preserved
loop-at-preserved c =
    carded_next c.loop-at.invariant c.in-Some.ensures.walk c.promote_fields.ensures

pub returns : goal.returns
returns c =
    carded_all c.loop-at.invariant
    (subst (IsWalk (is_old_carded c.args.heap.now c.args.n) c.loop-at.after) c.in_default.is
    c.next_carded.ensures.walk)
