use Rattle.hd_ages.proofs.Basics.{Option, ap, arith, blocks_from, chain_of, due_clumps, length, refl, set_bits, visits_of, ℕ, ◌+◌, ◌∙◌}
use Rattle.hd_ages.proofs.WalkSteps.{block_counted, handles_next, next_first, next_kind, next_within}
use Rattle.hd_ages.proofs.due_rows.pass_due.Goals as goal

pub loop-next-init : goal.loop-next-init
loop-next-init g c = record {
  counted = ap (λ cs. c.args.steps.now + length cs) c.first_due-next.ensures.clumps;
  next = c.first_due-next.ensures.of_kind;
}

pub after-next-requires : goal.after-next-requires
after-next-requires g c = handles_next c.args.seg.now c.args.kind c.in-Some.block c.in-Some.is c.loop-next.invariant.next

pub due-requires-clause-low : goal.due-requires-clause-low
due-requires-clause-low g c =
    (next_within c.args.seg.now c.args.kind c.in-Some.block c.in-Some.is c.loop-next.invariant.next c.after-next.ensures.table).0

pub due-requires-clause-high : goal.due-requires-clause-high
due-requires-clause-high g c =
    let within = next_within c.args.seg.now c.args.kind c.in-Some.block c.in-Some.is c.loop-next.invariant.next
    c.after-next.ensures.table in
    omega (arith, within.1, c.requires.blocks)

pub loop-next-smaller : goal.loop-next-smaller
loop-next-smaller g c =
    omega (
      arith,
      ap length (next_first c.args.seg.now c.args.kind c.in-Some.block c.in-Some.is c.loop-next.invariant.next c.after-next.ensures.table
          c.after-next.result c.after-next.ensures.value),
    )

pub loop-next-preserved : goal.loop-next-preserved
loop-next-preserved g c =
    let chain = chain_of c.args.seg.now c.args.kind in
    record {
      counted =
          ap (λ (s : ℕ). s + length (due_clumps c.args.ages.now c.args.n (blocks_from c.after-next.result chain)))
          c.tick_each.ensures
          ∙ block_counted c.args.seg.now c.args.ages.now c.in-Some.block c.due.result c.args.n
          c.loop-next.steps (length (set_bits c.due.result))
          (c.args.steps.now + visits_of c.args.seg.now c.args.ages.now c.args.n c.args.kind)
          (blocks_from c.loop-next.next chain) (blocks_from c.after-next.result chain)
          (next_first c.args.seg.now c.args.kind c.in-Some.block c.in-Some.is c.loop-next.invariant.next c.after-next.ensures.table
          c.after-next.result c.after-next.ensures.value) refl c.due.ensures.clumps c.loop-next.invariant.counted;
      next = next_kind c.args.seg.now c.args.kind c.in-Some.block c.in-Some.is c.loop-next.invariant.next c.after-next.ensures.table
          c.after-next.result c.after-next.ensures.value c.after-next.ensures.of_kind;
    }

pub returns : goal.returns
returns g c =
    omega (
      arith,
      c.loop-next.invariant.counted,
      ap (λ (o : Option ℕ). length (due_clumps c.args.ages.now c.args.n
          (blocks_from o (chain_of c.args.seg.now c.args.kind)))) c.in_default.is,
    )
