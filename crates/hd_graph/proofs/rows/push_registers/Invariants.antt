use Rattle.std.proofs.Common.{take, ◌++◌, ◌≡◌}
use Rattle.std.specs.Prelude.{flat_map}
use Rattle.std.specs.List.{enumerate_from}
use Rattle.hd_graph.specs.Graph.{registers_text}
use Rattle.hd_graph.proofs.rows.push_registers.Given as goal

abbrev pub invariant-loop-i : goal.invariant-loop-i
invariant-loop-i l =
    l.text.items ≡ l.fn.text.items ++ flat_map registers_text (enumerate_from 0 (take l.i l.registers))
