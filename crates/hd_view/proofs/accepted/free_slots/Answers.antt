use Rattle.std.proofs.Common.{ap, arith, subst, ◌+◌, ◌≡◌}
use Rattle.hd_view.specs.Inside.{CoversTo}
use Rattle.hd_view.proofs.SlotSets.{covers_all, covers_none}
use Rattle.hd_view.proofs.accepted.free_slots.Goals as goal

pub loop-block-init : goal.loop-block-init
loop-block-init c = (
  covers_none c.args.before.now.state c.args.kind c.open-set.result c.open-set.ensures.within
      c.open-set.ensures.but,
  ap (λ n. n + 1) c.blocks-block-end.ensures.value,
)

pub add_block-requires-clause-few : goal.add_block-requires-clause-few
add_block-requires-clause-few c =
    omega (arith, c.loop-block-test.true, c.loop-block.invariant.1, c.blocks-block-end.ensures.value, c.blocks-block-end.ensures.limit)

pub add_block-requires-clause-below : goal.add_block-requires-clause-below
add_block-requires-clause-below c = c.loop-block.invariant.0

pub loop-block-preserved : goal.loop-block-preserved
loop-block-preserved c = (c.in_ok-add_block.ensures, c.loop-block.invariant.1)

pub returns : goal.returns
returns c =
    let s = c.args.before.now.state in
    let blocks = c.args.before.now.numbers.blocks in
    let end : c.loop-block.block ≡ blocks + 1 = omega arith in
    covers_all s c.args.kind c.loop-block.set blocks
    (subst (λ b. CoversTo s c.args.kind b c.loop-block.set) end c.loop-block.invariant.0)
    (λ block some. let low = c.blocks-block-end.ensures.used block some in
    omega (arith, low, c.blocks-block-end.ensures.value))
