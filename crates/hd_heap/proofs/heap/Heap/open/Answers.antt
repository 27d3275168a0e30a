use Rattle.hd_heap.proofs.{GenerationSums.older_none, RegionReads.closed_none, RegionUse.no_regions}
use Rattle.hd_heap.proofs.heap.Heap.open.Goals as goal

pub invariant_of-result : goal.invariant_of-result
invariant_of-result c =
    closed_none (no_regions c.new.result.items c.new-2.result.items c.args.limit _ c.new.ensures.items
    c.new-2.ensures.items) (older_none c.new.ensures.items c.none.ensures)

pub returns : goal.returns
returns c = (no_regions c.new.result.items c.new-2.result.items c.args.limit 0 c.new.ensures.items
    c.new-2.ensures.items).view
