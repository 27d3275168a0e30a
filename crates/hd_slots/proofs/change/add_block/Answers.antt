use Rattle.hd_slots.proofs.PoolStep.{grows}
use Rattle.hd_slots.proofs.change.add_block.Goals as goal

pub returns : goal.returns
returns c =
    grows c.args.pool.now c.args.kind c.args.block c.requires.none c.add_block.new.self c.add_block.ensures
    c.take-first.result c.take-first.new.self
    c.take-first.ensures.least c.take-first.ensures.taken c.take-first.ensures.none.0
