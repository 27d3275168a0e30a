use Rattle.hd_gc.proofs.Basics.{Contains, Some, arith, take}
use Rattle.hd_gc.proofs.NullRoots.{first_null, promoted_past}
use Rattle.hd_gc.proofs.PromoteSteps.{may_promote, promotes_none, promoted_all}
use Rattle.hd_gc.proofs.marking.promote_roots.Goals as goal

pub loop-at-init : goal.loop-at-init
loop-at-init c = record {
  promoted = promotes_none (λ x. Contains (take c.skip_null-at.result c.args.roots.now) (Some x))
      c.args.marks.now c.requires.settled
      (first_null c.args.roots.now c.skip_null-at.result c.skip_null-at.ensures.null);
  within = c.skip_null-at.ensures.within;
}

pub promote_between-requires-clause-may : goal.promote_between-requires-clause-may
promote_between-requires-clause-may c =
    may_promote c.loop-at.invariant.promoted.settled c.loop-at.invariant.promoted.basis c.requires.objects

pub loop-at-preserved : goal.loop-at-preserved
loop-at-preserved c = record {
  promoted = promoted_past c.args.roots.now _ _ c.skip_null-at-in-loop-at.ensures.on
      c.skip_null-at-in-loop-at.ensures.null
      (c.promote_between.ensures _ c.loop-at.invariant.promoted);
  within = c.skip_null-at-in-loop-at.ensures.within;
}

pub promote_between-requires-2-clause-may : goal.promote_between-requires-2-clause-may
promote_between-requires-2-clause-may c =
    may_promote c.loop-at.invariant.promoted.settled c.loop-at.invariant.promoted.basis c.requires.objects

pub returns : goal.returns
returns c =
    promoted_all (λ x. Some x) c.args.roots.now _ c.args.marks.now c.promote_between-2.new.marks
    (omega arith) (c.promote_between-2.ensures _ c.loop-at.invariant.promoted)
