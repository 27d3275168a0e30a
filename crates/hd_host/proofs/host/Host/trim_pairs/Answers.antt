use Rattle.std.proofs.Common.{ap, arith, inr, refl}
use Rattle.hd_model.specs.State.{Numbers}
use Rattle.hd_host.specs.Turns.{next_kind, no_kinds}
use Rattle.hd_host.proofs.TrimRows.{paired_block, trimming_end, trimming_first, trimming_on, trimming_past}
use Rattle.hd_host.proofs.host.Host.trim_pairs.Goals as goal

pub loop-block-init : goal.loop-block-init
loop-block-init c = record { trimming = trimming_first c.args.kind c.args.self.now; few = omega arith }

pub is_spare-requires : goal.is_spare-requires
is_spare-requires c = omega (arith, c.in-Some.ensures.within, c.in-Some.ensures.few)

pub give_back-requires-clause-spare : goal.give_back-requires-clause-spare
give_back-requires-clause-spare c = c.is_spare.ensures.spare c.if-is_spare.true

pub loop-block-preserved-then-is_spare : goal.loop-block-preserved-then-is_spare
loop-block-preserved-then-is_spare c = record {
  trimming = trimming_on c.loop-block.invariant.trimming c.in-Some.ensures.first c.in-Some.ensures.next c.requires
      (c.is_spare.ensures.spare c.if-is_spare.true) c.give_back.result c.give_back.new.self c.give_back.ensures.gives
      c.give_back.ensures.after;
  few = omega (arith, c.in-Some.ensures.within, c.in-Some.ensures.few);
}

pub loop-block-preserved : goal.loop-block-preserved
loop-block-preserved c = record {
  trimming = trimming_past c.loop-block.invariant.trimming c.in-Some.ensures.first c.in-Some.ensures.next
      (c.is_spare.ensures.other c.if-is_spare.false);
  few = omega (arith, c.in-Some.ensures.within, c.in-Some.ensures.few);
}

pub loop-block-smaller : goal.loop-block-smaller
loop-block-smaller c =
    omega (
      arith,
      c.in-Some.ensures.within,
      c.in-Some.ensures.next.low,
      ap (λ (n : Numbers). n.blocks) c.loop-block.invariant.trimming.numbers,
    )

pub returns : goal.returns
returns c = c.loop-block.invariant.trimming.row c.keep_blocks.new.self (next_kind (paired_block c.requires (inr (
  refl,
  record {
    none = trimming_end c.loop-block.invariant.trimming c.in_default.ensures.first c.in_default.ensures.next;
    same = c.keep_blocks.ensures.same;
    last = c.keep_blocks.ensures.last;
  },
))) no_kinds)
