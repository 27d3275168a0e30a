use Rattle.hd_gc.proofs.Basics.{Contains, Contains-get_or, None, Some, arith, refl, subst, ◌∙◌}
use Rattle.hd_gc.specs.Inside.{PromotesOn}
use Rattle.hd_gc.proofs.PromoteSteps.{may_promote, promoted_next}
use Rattle.hd_gc.proofs.marking.promote_between.Goals as goal

pub loop-i-init : goal.loop-i-init
loop-i-init c = record { settled = c.requires.may.settled; basis = refl; goes = λ m done. done }

pub promote_named-requires : goal.promote_named-requires
promote_named-requires c =
    may_promote c.loop-i.invariant.settled c.loop-i.invariant.basis
    (λ x is. c.requires.may.objects x
    (subst (λ v. Contains c.args.roots.now v) is
    (Contains-get_or c.args.roots.now c.loop-i.i None (omega (arith, c.requires.within)))))

pub loop-i-preserved : goal.loop-i-preserved
loop-i-preserved c = record {
  settled = c.promote_named.ensures.settled;
  basis = c.promote_named.ensures.basis ∙ c.loop-i.invariant.basis;
  goes = λ m done.
      promoted_next (λ x. Some x) c.args.roots.now c.loop-i.i None (omega (arith, c.requires.within))
      (c.loop-i.invariant.goes m done) c.promote_named.ensures;
}

pub returns : goal.returns
returns c =
    subst (λ n. PromotesOn c.args.roots.now c.args.from n c.args.marks.now c.loop-i.marks) (omega arith)
    c.loop-i.invariant.goes
