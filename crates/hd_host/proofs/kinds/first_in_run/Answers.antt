use Rattle.std.proofs.Common.{arith, subst, ◌*◌, ◌+◌, ◌≡◌}
use Rattle.hd_model.specs.declared.limits.TheConstants.{ROWS}
use Rattle.hd_host.specs.Kinds.{HasNoneBefore}
use Rattle.hd_host.proofs.HandleKinds.{next-after, none-joined, none-unused}
use Rattle.hd_host.proofs.kinds.first_in_run.Goals as goal

pub loop-block-init : goal.loop-block-init
loop-block-init c = λ slot low high is. absurd (omega (arith, low, high))

pub is_unused-requires-clause-low : goal.is_unused-requires-clause-low
is_unused-requires-clause-low c = omega (arith, c.loop-block.auto.block, c.requires.low)

pub is_unused-requires-clause-high : goal.is_unused-requires-clause-high
is_unused-requires-clause-high c = omega (arith, c.loop-block-test.true, c.blocks-last.ensures.table)

pub returns-then-is_unused-clause-next : goal.returns-then-is_unused-clause-next
returns-then-is_unused-clause-next c =
    none-joined c.requires.sound c.args.kinds c.args.cleared (ROWS * c.args.first) (ROWS * c.loop-block.block)
    (ROWS * c.loop-block.block + 0) (omega arith) c.loop-block.invariant (ROWS * (c.loop-block.block + 1))
    (none-unused c.requires.sound c.args.kinds c.args.cleared c.loop-block.block 0 (omega arith)
    (c.is_unused.ensures c.if-is_unused.true))

pub returns-then-is_unused-clause-on : goal.returns-then-is_unused-clause-on
returns-then-is_unused-clause-on c = (
  omega (arith, c.loop-block.auto.block),
  omega (arith, c.loop-block-test.true, c.blocks-last.ensures.value),
)

pub first_in-requires-clause-low : goal.first_in-requires-clause-low
first_in-requires-clause-low c = omega (arith, c.loop-block.auto.block, c.requires.low)

pub first_in-requires-clause-high : goal.first_in-requires-clause-high
first_in-requires-clause-high c = omega (arith, c.loop-block-test.true, c.blocks-last.ensures.table)

pub returns-in-Some-clause-next : goal.returns-in-Some-clause-next
returns-in-Some-clause-next c =
    next-after c.requires.sound c.args.kinds c.args.cleared (ROWS * c.args.first) (ROWS * c.loop-block.block)
    (ROWS * c.loop-block.block + 0) (omega arith) c.loop-block.invariant (omega (arith, c.loop-block.auto.block))
    c.in-Some.slot c.in-Some.ensures

pub loop-block-preserved : goal.loop-block-preserved
loop-block-preserved c =
    none-joined c.requires.sound c.args.kinds c.args.cleared (ROWS * c.args.first) (ROWS * c.loop-block.block)
    (ROWS * c.loop-block.block + 0) (omega arith) c.loop-block.invariant (ROWS * (c.loop-block.block + 1))
    c.in_default.ensures

pub returns-clause-next : goal.returns-clause-next
returns-clause-next c =
    subst (λ n. HasNoneBefore c.args.store.now.state c.args.kinds c.args.cleared (ROWS * c.args.first) (ROWS * n))
    (let at : c.loop-block.block ≡ c.blocks-last.result + 1 =
    omega (arith, c.loop-block-test.false, c.loop-block.auto.block-end, c.requires.high, c.blocks-last.ensures.value) in
    at) c.loop-block.invariant

pub returns-clause-on : goal.returns-clause-on
returns-clause-on c = (
  omega (arith, c.requires.high, c.blocks-last.ensures.value),
  omega (arith, c.blocks-last.ensures.value),
)
