use Rattle.std.proofs.Common.{ap, arith, length, slice_index, ◌%◌, ◌*◌, ◌+◌, ◌-◌, ◌/◌, ◌∙◌}
use Rattle.hd_model.specs.declared.limits.TheConstants.{CLUMP, CLUMPS, ROWS}
use Rattle.hd_store.specs.Store.{Machine}
use Rattle.hd_snapshot.proofs.StoreSlots.{clump_is}
use Rattle.hd_snapshot.proofs.rows.age.Goals as goal

pub age-requires-clause-high : goal.age-requires-clause-high
age-requires-clause-high c =
    let blocks = ap (λ (m : Machine). m.numbers.blocks) c.contents.ensures.value in
    omega (arith, c.requires.high, c.ages.ensures.clumps, ap length c.ages.ensures.value, blocks)

pub returns : goal.returns
returns c =
    let index = CLUMPS * (c.args.slot.0 / ROWS) + c.args.slot.0 / CLUMP % CLUMPS - CLUMPS in
    c.age.ensures.value ∙ ap (λ ages. slice_index ages index)
    (c.ages.ensures.value ∙ ap (λ (m : Machine). m.ages) c.contents.ensures.value)
    ∙ ap (slice_index c.args.store.now.ages) (clump_is c.args.slot.0 c.requires.low)
