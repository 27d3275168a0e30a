use Rattle.std.proofs.Common.{take, ◌++◌, ◌≡◌}
use Rattle.std.specs.Prelude.{flat_map}
use Rattle.hd_graph.specs.Kept.{row_numbers}
use Rattle.hd_graph.proofs.kept.push_rows.Given as goal

abbrev pub invariant-loop-row : goal.invariant-loop-row
invariant-loop-row l =
    l.numbers.items ≡ l.fn.numbers.items ++ flat_map row_numbers (take l.row-index l.registers)
