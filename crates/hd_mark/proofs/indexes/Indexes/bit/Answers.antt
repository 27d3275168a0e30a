use Rattle.hd_mark.proofs.Basics.{arith}
use Rattle.hd_model.specs.Heap.{region_of}
use Rattle.hd_mark.proofs.CondemnedWalks.{index_low}
use Rattle.hd_mark.proofs.indexes.Indexes.bit.Goals as goal

pub overflow_mul-result : goal.overflow_mul-result
unfolding region_of
overflow_mul-result c =
    let low = index_low c.args.self.now.indexes.items c.args.self.now.regions (region_of c.args.at)
    c.index.result.now c.requires.table c.requires.span c.index.ensures in
    omega (arith, low)

pub overflow_add-result : goal.overflow_add-result
unfolding region_of
overflow_add-result c =
    let low = index_low c.args.self.now.indexes.items c.args.self.now.regions (region_of c.args.at)
    c.index.result.now c.requires.table c.requires.span c.index.ensures in
    omega (arith, low)
