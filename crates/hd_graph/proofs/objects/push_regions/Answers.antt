use Rattle.std.proofs.Common.{refl, sym}
use Rattle.std.proofs.lemmas.List.{append-nil}
use Rattle.hd_graph.specs.Graph.{region_label}
use Rattle.hd_graph.proofs.TextRows.{list_all, list_next}
use Rattle.hd_graph.proofs.objects.push_regions.Goals as goal

pub loop-region-init : goal.loop-region-init
loop-region-init c = sym (append-nil c.args.text.now.items)

pub returns : goal.returns
returns c =
    list_all region_label c.args.regions.now c.loop-region.region-index c.loop-region-test.false
    c.args.text.now.items
    c.loop-region.text.items c.loop-region.invariant

pub loop-region-preserved : goal.loop-region-preserved
loop-region-preserved c =
    list_next region_label c.args.regions.now c.loop-region.region-index _ c.loop-region-test.true
    c.args.text.now.items c.loop-region.text.items c.push_region.new.text.items _ refl c.loop-region.invariant
    c.in_ok-push_region.ensures
