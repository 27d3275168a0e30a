use Rattle.std.proofs.Common.{◌*◌}
use Rattle.hd_model.specs.declared.limits.TheConstants.{ROWS}
use Rattle.hd_host.specs.Kinds.{HasNoneBefore}
use Rattle.hd_host.proofs.kinds.first_in_run.Given as goal

-- none in the blocks so far
abbrev pub invariant-loop-block : goal.invariant-loop-block
invariant-loop-block l = HasNoneBefore l.store.state l.kinds l.cleared (ROWS * l.first) (ROWS * l.block)
