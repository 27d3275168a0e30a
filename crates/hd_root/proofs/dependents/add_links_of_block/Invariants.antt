use Rattle.std.proofs.Common.{◌+◌, ◌*◌}
use Rattle.hd_model.specs.declared.limits.TheConstants.{ROWS}
use Rattle.hd_root.specs.Inside.{HasGathered}
use Rattle.hd_root.proofs.dependents.add_links_of_block.Given as goal

abbrev pub invariant-loop-row : goal.invariant-loop-row
invariant-loop-row l =
    HasGathered l.seg (l.block * ROWS) (l.block * ROWS + l.row) l.initial.dependents l.dependents
