use Rattle.std.proofs.Common.{drop, map, ◌≡◌}
use Rattle.hd_plain.specs.Inside.{with_rows, young}
use Rattle.hd_plain.proofs.machine.Machine.mark_registers.Given as goal

abbrev pub invariant-loop-row : goal.invariant-loop-row
invariant-loop-row l =
    with_rows l.marks (map (map (young l.n l.self.state.objects)) (drop l.row-index l.row-items))
    ≡ with_rows l.initial.marks (map (map (young l.n l.self.state.objects)) l.row-items)
