use Rattle.std.proofs.Common.{ap, arith, drop, sym, ◌+◌, ◌∙◌}
use Rattle.std.proofs.lemmas.List.{at_drop_all, at_drop_more}
use Rattle.hd_plain.specs.Inside.{Swept, pass, swept_one, swept_to, is_seen}
use Rattle.hd_plain.proofs.CollectionPasses.{few_stale}
use Rattle.hd_plain.proofs.collecting.sweep.Goals as goal

pub sweep_one-requires-clause-few : goal.sweep_one-requires-clause-few
sweep_one-requires-clause-few c = let low = c.loop-slot.invariant.1 in omega (arith, low)

pub loop-slot-preserved : goal.loop-slot-preserved
loop-slot-preserved c =
    let kept = is_seen c.args.sight.now c.args.kept.now in
    let before = swept_to c.loop-slot.weak c.loop-slot.count in
    let each = c.in_ok-more.ensures in (
      ap (λ (d : Swept). pass (swept_one kept) d (drop (c.loop-slot.slot-index + 1) c.args.slots.now)) each
          ∙ sym (at_drop_more (λ l. pass (swept_one kept) before l) c.args.slots.now c.loop-slot.slot-index 0
          c.loop-slot-test.true) ∙ c.loop-slot.invariant.0,
      few_stale kept kept before _ each c.loop-slot.invariant.1,
    )

pub returns : goal.returns
returns c =
    sym (at_drop_all (λ l. pass (swept_one (is_seen c.args.sight.now c.args.kept.now))
    (swept_to c.loop-slot.weak c.loop-slot.count) l)
    c.args.slots.now c.loop-slot.slot-index c.loop-slot-test.false) ∙ c.loop-slot.invariant.0
