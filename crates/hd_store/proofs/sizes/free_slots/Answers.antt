use Rattle.hd_store.proofs.StoreWords.{arith, ◌+◌}
use Rattle.hd_store.proofs.FreeSlots.{free_begins, free_ends, free_more, free_skip}
use Rattle.hd_store.proofs.sizes.free_slots.Goals as goal

pub loop-block-init : goal.loop-block-init
loop-block-init c = record {
  counted = free_begins c.args.table.now c.args.kind c.requires.within;
  few = omega arith;
  within = omega arith;
}

pub loop-block-preserved : goal.loop-block-preserved
loop-block-preserved c =
    let low = c.in-Some.ensures.next.low in
    record {
      counted = free_more c.args.table.now c.args.kind c.in-Some.block c.loop-block.free c.free_in-free.result
          (free_skip c.args.table.now c.args.kind (c.loop-block.before + 1) c.in-Some.block c.loop-block.free
          c.in-Some.ensures.next c.loop-block.invariant.counted) c.free_in-free.ensures.free;
      few = omega (arith, low, c.loop-block.invariant.few, c.free_in-free.ensures.few);
      within = c.in-Some.ensures.within;
    }

pub loop-block-smaller : goal.loop-block-smaller
loop-block-smaller c = omega (arith, c.in-Some.ensures.next.low, c.in-Some.ensures.within)

pub returns : goal.returns
returns c = free_ends c.args.table.now c.args.kind (c.loop-block.before + 1) c.loop-block.free
    c.in_default.ensures.next c.loop-block.invariant.counted
