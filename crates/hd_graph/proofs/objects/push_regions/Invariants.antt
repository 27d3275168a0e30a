use Rattle.std.proofs.Common.{take, ◌++◌, ◌≡◌}
use Rattle.std.specs.Prelude.{flat_map}
use Rattle.hd_graph.specs.Graph.{region_label}
use Rattle.hd_graph.proofs.objects.push_regions.Given as goal

abbrev pub invariant-loop-region : goal.invariant-loop-region
invariant-loop-region l = l.text.items ≡ l.fn.text.items ++ flat_map region_label (take l.region-index
    l.regions)
