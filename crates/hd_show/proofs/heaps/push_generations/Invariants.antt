use Rattle.std.proofs.Common.{take, ◌+◌, ◌++◌, ◌≡◌}
use Rattle.std.specs.Prelude.{flat_map}
use Rattle.std.specs.List.{range_with_len}
use Rattle.hd_model.specs.Text.{newline}
use Rattle.hd_model.specs.declared.limits.TheConstants.{OLDEST}
use Rattle.hd_show.specs.{Heaps.at_generation, Heaps.generations_header, Inside.regions_by}
use Rattle.hd_show.proofs.heaps.push_generations.Given as goal

abbrev pub invariant-loop-generation : goal.invariant-loop-generation
invariant-loop-generation l =
    l.text
    ≡ (l.fn.text ++ (generations_header ++ newline))
    ++ flat_map (at_generation (regions_by l.sums) l.regions) (take l.generation (range_with_len 0
    (OLDEST + 1)))
