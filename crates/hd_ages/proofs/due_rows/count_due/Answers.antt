use Rattle.hd_ages.proofs.Basics.{Option, ap, arith, blocks_from, chain_of, due_clumps, length, set_bits, visits_of, ℕ, ◌+◌, ◌∙◌, ◌≡◌}
use Rattle.hd_ages.proofs.WalkSlots.{due_clumps_few}
use Rattle.hd_ages.proofs.WalkSteps.{block_counted, handles_next, next_first, next_kind, next_within}
use Rattle.hd_ages.proofs.due_rows.count_due.Goals.{After-count-clumps}
use Rattle.hd_ages.proofs.due_rows.count_due.Goals as goal

counted : (c : After-count-clumps) → c.loop-next.clumps + c.count-clumps.result
    + length (due_clumps c.args.ages.now c.args.n
    (blocks_from c.after-next.result (chain_of c.args.seg.now c.args.kind)))
    ≡ visits_of c.args.seg.now c.args.ages.now c.args.n c.args.kind
counted c =
    let chain = chain_of c.args.seg.now c.args.kind in
    block_counted c.args.seg.now c.args.ages.now c.in-Some.block c.due.result c.args.n c.loop-next.clumps
    c.count-clumps.result (visits_of c.args.seg.now c.args.ages.now c.args.n c.args.kind)
    (blocks_from c.loop-next.next chain) (blocks_from c.after-next.result chain)
    (next_first c.args.seg.now c.args.kind c.in-Some.block c.in-Some.is c.loop-next.invariant.next c.after-next.ensures.table
    c.after-next.result c.after-next.ensures.value)
    (c.count-clumps.ensures.number ∙ ap (λ m. length (set_bits m)) c.from.ensures) c.due.ensures.clumps
    c.loop-next.invariant.counted

pub loop-next-init : goal.loop-next-init
loop-next-init c = record {
  counted = omega (arith, ap length c.first_due-next.ensures.clumps);
  next = c.first_due-next.ensures.of_kind;
}

pub after-next-requires : goal.after-next-requires
after-next-requires c = handles_next c.args.seg.now c.args.kind c.in-Some.block c.in-Some.is c.loop-next.invariant.next

pub due-requires-clause-low : goal.due-requires-clause-low
due-requires-clause-low c =
    (next_within c.args.seg.now c.args.kind c.in-Some.block c.in-Some.is c.loop-next.invariant.next c.after-next.ensures.table).0

pub due-requires-clause-high : goal.due-requires-clause-high
due-requires-clause-high c =
    let within = next_within c.args.seg.now c.args.kind c.in-Some.block c.in-Some.is c.loop-next.invariant.next
    c.after-next.ensures.table in
    omega (arith, within.1, c.requires.blocks)

pub overflow_add-clumps : goal.overflow_add-clumps
overflow_add-clumps c =
    let few = due_clumps_few c.args.seg.now c.after-next.ensures.table c.args.ages.now c.args.n c.args.kind in
    omega (arith, few, counted (goal.at.overflow_add-clumps c).After-count-clumps)

pub loop-next-smaller : goal.loop-next-smaller
loop-next-smaller c =
    omega (
      arith,
      ap length (next_first c.args.seg.now c.args.kind c.in-Some.block c.in-Some.is c.loop-next.invariant.next c.after-next.ensures.table
          c.after-next.result c.after-next.ensures.value),
    )

pub loop-next-preserved : goal.loop-next-preserved
loop-next-preserved c = record {
  counted = counted (goal.at.loop-next-preserved c).After-count-clumps;
  next = next_kind c.args.seg.now c.args.kind c.in-Some.block c.in-Some.is c.loop-next.invariant.next c.after-next.ensures.table
      c.after-next.result c.after-next.ensures.value c.after-next.ensures.of_kind;
}

pub returns-clause-value : goal.returns-clause-value
returns-clause-value c =
    omega (
      arith,
      c.loop-next.invariant.counted,
      ap (λ (o : Option ℕ). length (due_clumps c.args.ages.now c.args.n
          (blocks_from o (chain_of c.args.seg.now c.args.kind)))) c.in_default.is,
    )

pub returns-clause-few : goal.returns-clause-few
returns-clause-few c =
    let few = due_clumps_few c.args.seg.now c.first_due-next.ensures.table c.args.ages.now c.args.n c.args.kind in
    omega (arith, few, c.loop-next.invariant.counted)
