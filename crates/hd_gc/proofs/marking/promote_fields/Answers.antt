use Rattle.hd_gc.proofs.Basics.{Contains, Contains-get_or, None, Promotes, Some, arith, fields_at, object_at, subst, sym, ◌∙◌, ◌≡◌}
use Rattle.hd_gc.proofs.PromoteSteps.{may_promote, promoted_next, promoted_all}
use Rattle.hd_gc.proofs.marking.promote_fields.Goals as goal

pub load-requires-clause-within : goal.load-requires-clause-within
load-requires-clause-within c = omega (arith, c.fields-i-end.ensures.count)

pub promote_named-requires : goal.promote_named-requires
promote_named-requires c =
    let fields = fields_at (object_at c.args.heap.now) c.args.at in
    may_promote c.loop-i.invariant.settled c.loop-i.invariant.basis
    (λ x is. c.requires.fields.objects x
    (subst (λ v. Contains fields v) (sym c.load.ensures ∙ is)
    (Contains-get_or fields c.loop-i.i None (omega (arith, c.fields-i-end.ensures.count)))))

pub loop-i-preserved : goal.loop-i-preserved
loop-i-preserved c =
    promoted_next (λ x. Some x) (fields_at (object_at c.args.heap.now) c.args.at) c.loop-i.i None
    (omega (arith, c.fields-i-end.ensures.count)) c.loop-i.invariant
    (subst (λ v. Promotes (λ x. v ≡ Some x) c.loop-i.marks c.promote_named.new.marks) c.load.ensures
    c.promote_named.ensures)

pub returns : goal.returns
returns c =
    promoted_all (λ x. Some x) (fields_at (object_at c.args.heap.now) c.args.at) c.loop-i.i c.args.marks.now
    c.loop-i.marks (omega (arith, c.fields-i-end.ensures.count)) c.loop-i.invariant
