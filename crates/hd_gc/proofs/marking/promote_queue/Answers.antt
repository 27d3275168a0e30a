use Rattle.hd_gc.proofs.Basics.{Addr, Basis, Contains, Contains-get_or, arith, get_or, is_object, not_in_none, objects_of, subst, sym, take, true, ◌∙◌, ◌≡◌}
use Rattle.hd_gc.proofs.PromoteSteps.{promotes_none, promotes_like, promoted_next, promoted_all}
use Rattle.hd_gc.proofs.marking.promote_queue.Goals as goal

pub loop-i-init : goal.loop-i-init
loop-i-init c =
    promotes_none (λ x. Contains (take 0 c.args.fin.now.queued) x) c.args.marks.now c.requires.settled
    (λ x. not_in_none x)

pub at-requires : goal.at-requires
at-requires c = omega (arith, c.len-i-end.ensures.value)

pub promote-requires-clause-object : goal.promote-requires-clause-object
promote-requires-clause-object c =
    subst (λ (g : Basis). is_object (objects_of g) c.at.result ≡ true) (sym c.loop-i.invariant.basis)
    (c.requires.objects c.at.result
    (subst (λ (x : Addr). Contains c.args.fin.now.queued x) (sym (c.at.ensures c.at.result))
    (Contains-get_or c.args.fin.now.queued c.loop-i.i c.at.result
    (omega (arith, c.len-i-end.ensures.value)))))

pub loop-i-preserved : goal.loop-i-preserved
loop-i-preserved c =
    let queued = c.args.fin.now.queued in
    let i = c.loop-i.i in
    let at : Addr = c.at.result in
    let here : get_or queued i at ≡ at = sym (c.at.ensures at) in
    promoted_next (λ x. x) queued i at (omega (arith, c.len-i-end.ensures.value)) c.loop-i.invariant
    (promotes_like (λ x. x ≡ at) (λ x. get_or queued i at ≡ x) c.loop-i.marks c.promote.new.self
    (λ x e. here ∙ sym e) (λ x e. sym e ∙ here)
    (record {
      settled = c.promote.ensures.settled;
      basis = c.promote.ensures.basis;
      pinned = c.promote.ensures.pinned;
      grows = c.promote.ensures.grows;
    }))

pub returns : goal.returns
returns c =
    promoted_all (λ x. x) c.args.fin.now.queued c.loop-i.i c.args.marks.now c.loop-i.marks
    (omega (arith, c.len-i-end.ensures.value)) c.loop-i.invariant
