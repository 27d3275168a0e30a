use Rattle.hd_store.proofs.StoreWords.{arith, is_some, ap}
use Rattle.hd_store.proofs.SpareBlocks.{least_of, none_at_all, none_to}
use Rattle.hd_store.proofs.contents.Contents.spare_block.Goals as goal

pub loop-block-init : goal.loop-block-init
loop-block-init c = record {
  none = λ block low spare. (let inside = c.requires.handles.blocks block (ap is_some spare.of_kind) in
      absurd (omega (arith, low, inside.0)));
  few = omega arith;
}

pub is_spare-requires : goal.is_spare-requires
is_spare-requires c = omega (arith, c.in-Some.ensures.within, c.requires.few)

pub returns-then-is_spare-clause-least : goal.returns-then-is_spare-clause-least
returns-then-is_spare-clause-least c =
    least_of c.loop-block.before c.loop-block.invariant.none c.in-Some.ensures.next
    (c.is_spare.ensures.spare c.if-is_spare.true)

pub loop-block-preserved : goal.loop-block-preserved
loop-block-preserved c = record {
  none = none_to c.loop-block.before c.loop-block.invariant.none c.in-Some.ensures.next
      (c.is_spare.ensures.other c.if-is_spare.false);
  few = omega (arith, c.in-Some.ensures.within, c.requires.few);
}

pub loop-block-smaller : goal.loop-block-smaller
loop-block-smaller c = omega (arith, c.in-Some.ensures.within, c.in-Some.ensures.next.low)

pub returns-clause-none : goal.returns-clause-none
returns-clause-none c = none_at_all c.loop-block.before c.loop-block.invariant.none c.in_default.ensures.next
