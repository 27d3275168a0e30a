use Rattle.std.proofs.Common.{take, ◌++◌, ◌≡◌}
use Rattle.std.specs.Prelude.{flat_map}
use Rattle.hd_model.specs.Text.{newline}
use Rattle.hd_show.specs.{Heaps.region_row, Heaps.regions_header, Inside.regions_by}
use Rattle.hd_show.proofs.heaps.push_regions.Given as goal

abbrev pub invariant-loop-region : goal.invariant-loop-region
invariant-loop-region l =
    l.text
    ≡ (l.fn.text ++ (regions_header ++ newline))
    ++ flat_map (region_row (regions_by l.sums)) (take l.region-index l.regions)
