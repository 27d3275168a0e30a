use Rattle.hd_custody.proofs.Basics.{◌∙◌}
use Rattle.hd_custody.proofs.{CallPhases.table_is, AllocateSteps.banked_none, AllocateSteps.banked_more}
use Rattle.hd_custody.proofs.types.Custody.fill_cells.Goals as goal

pub loop-i-init : goal.loop-i-init
loop-i-init g c = banked_none c.args.block 0 c.args.mask c.args.caller.now c.requires.rows

pub offer-left-requires : goal.offer-left-requires
offer-left-requires g c = record {
  seat = table_is (c.loop-i.invariant.made 0) ∙ c.requires.seat;
  kind = (c.requires.kind, c.loop-i-test.true);
  block = c.requires.block;
  rows = c.loop-i.invariant.has;
}

pub loop-i-preserved : goal.loop-i-preserved
loop-i-preserved g c = banked_more c.loop-i.invariant c.offer-left.ensures.banked
