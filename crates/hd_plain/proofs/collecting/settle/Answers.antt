use Rattle.std.proofs.Common.{ap, arith, drop, sym, ◌+◌, ◌∙◌}
use Rattle.std.proofs.lemmas.List.{at_drop_all, at_drop_more}
use Rattle.hd_plain.specs.Inside.{Settled, pass, settled_one, settled_to, is_marked}
use Rattle.hd_plain.specs.declared.collecting.Fates.{Fates}
use Rattle.hd_plain.proofs.CollectionPasses.{few_fates, is_removed, kept_counted, removed_counted, revived_counted, revives, survives}
use Rattle.hd_plain.proofs.collecting.settle.Goals as goal

pub settle_one-requires : goal.settle_one-requires
settle_one-requires c =
    let a = c.loop-id.invariant.1 in
    let b = c.loop-id.invariant.2 in
    let d = c.loop-id.invariant.3 in (omega (arith, a), omega (arith, b), omega (arith, d))

pub loop-id-preserved : goal.loop-id-preserved
loop-id-preserved c =
    let n = c.args.n in
    let reach = is_marked c.args.decided.now.reached in
    let kept = is_marked c.args.decided.now.kept in
    let before = settled_to c.loop-id.objects c.loop-id.queue.items c.loop-id.fates in
    let each = c.in_ok-after.ensures in (
      ap (λ (d : Settled). pass (settled_one n reach kept) d (drop (c.loop-id.id-index + 1) c.args.ids.now))
          each
          ∙ sym (at_drop_more (λ l. pass (settled_one n reach kept) before l) c.args.ids.now
          c.loop-id.id-index 0 c.loop-id-test.true) ∙ c.loop-id.invariant.0,
      few_fates reach kept n (λ (f : Fates). f.kept) (survives reach kept n)
          (λ d k o. kept_counted reach kept n d k o) before _ each c.loop-id.invariant.1,
      few_fates reach kept n (λ (f : Fates). f.removed) (is_removed reach kept n)
          (λ d k o. removed_counted reach kept n d k o) before _ each c.loop-id.invariant.2,
      few_fates reach kept n (λ (f : Fates). f.revived) (revives reach kept n)
          (λ d k o. revived_counted reach kept n d k o) before _ each c.loop-id.invariant.3,
    )

pub returns : goal.returns
returns c =
    sym (at_drop_all (λ l. pass
    (settled_one c.args.n (is_marked c.args.decided.now.reached) (is_marked c.args.decided.now.kept))
    (settled_to c.loop-id.objects c.loop-id.queue.items c.loop-id.fates) l)
    c.args.ids.now c.loop-id.id-index c.loop-id-test.false) ∙ c.loop-id.invariant.0
