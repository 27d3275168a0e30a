use Rattle.std.proofs.Common.{◌≡◌, ◌*◌}
use Rattle.hd_model.specs.declared.limits.TheConstants.{ROWS}
use Rattle.hd_model.specs.RootText.{roots_in}
use Rattle.hd_model.specs.Table.{row_at}
use Rattle.hd_seg.specs.Mapped.{entries_of}
use Rattle.hd_scan.specs.Gathering.{root_by}
use Rattle.hd_scan.proofs.gathering.gather_in_turn.Given as goal

-- the roots of the blocks so far
abbrev pub invariant-loop-i : goal.invariant-loop-i
invariant-loop-i l = l.roots.items ≡ roots_in root_by (entries_of ROWS (ROWS * l.i) (row_at l.seg))
