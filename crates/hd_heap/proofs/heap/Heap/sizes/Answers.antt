use Rattle.hd_heap.proofs.{GenerationSizes.size_is, GenerationSizes.whole_sizes, GenerationSizes.youngest_share, RegionReads.opened}
use Rattle.hd_heap.proofs.heap.Heap.sizes.Goals as goal

pub returns : goal.returns
returns c =
    let heap = opened c.self.inside c.self.view_is c.self.invariant in
    let older = c.self.invariant.4 in
    let share = youngest_share heap older c.size-whole.ensures c.less.ensures c.less-2.ensures in
    record {
      youngest = size_is heap 0 share;
      middle = size_is heap 1 older.middle;
      oldest = size_is heap 2 older.oldest;
      whole = whole_sizes heap older c.size-whole.ensures c.less.ensures c.less-2.ensures;
    }
