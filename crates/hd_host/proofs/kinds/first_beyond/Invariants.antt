use Rattle.std.proofs.Common.{◌*◌, ◌+◌, ◌-◌, ◌<◌, ◌^◌, ◌≤◌}
use Rattle.hd_model.specs.declared.limits.TheConstants.{ROWS}
use Rattle.hd_host.specs.Kinds.{HasNoneBefore}
use Rattle.hd_host.proofs.kinds.first_beyond.Given as goal

-- none in the blocks so far
abbrev pub invariant-loop-first : goal.invariant-loop-first
invariant-loop-first l = record {
  few : l.last < 2 ^ 26;
  on : l.before ≤ l.last;
  none : HasNoneBefore l.store.state l.kinds l.cleared (ROWS * (l.before + 1)) (ROWS * (l.last + 1));
}

abbrev pub decreases-loop-first : goal.decreases-loop-first
decreases-loop-first l = l.store.numbers.blocks - l.last
