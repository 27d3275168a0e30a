use Rattle.hd_links.proofs.SourceParts.{in_order, part_from}
use Rattle.hd_links.proofs.sources.links_from.Goals as goal

pub slice_bounds-result-count : goal.slice_bounds-result-count
slice_bounds-result-count c =
    in_order c.args.links.now c.args.from c.lower_than-low.result c.up_to-high.result
    c.lower_than-low.ensures c.up_to-high.ensures

pub slice_bounds-result-start : goal.slice_bounds-result-start
slice_bounds-result-start c =
    in_order c.args.links.now c.args.from c.lower_than-low.result c.up_to-high.result
    c.lower_than-low.ensures c.up_to-high.ensures

pub returns : goal.returns
returns c =
    part_from c.args.links.now c.args.from c.lower_than-low.result c.up_to-high.result
    c.lower_than-low.ensures
    c.up_to-high.ensures
