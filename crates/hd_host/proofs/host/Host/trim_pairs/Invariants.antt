use Rattle.std.proofs.Common.{◌-◌, ◌≤◌}
use Rattle.hd_model.specs.declared.limits.TheConstants.{HOST_BLOCKS}
use Rattle.hd_host.proofs.TrimRows.{IsTrimming}
use Rattle.hd_host.proofs.host.Host.trim_pairs.Given as goal

abbrev pub invariant-loop-block : goal.invariant-loop-block
invariant-loop-block l = record {
  trimming : IsTrimming l.kind l.fn.self l.self l.before;
  few : l.before ≤ HOST_BLOCKS;
}

abbrev pub decreases-loop-block : goal.decreases-loop-block
decreases-loop-block l = l.fn.self.machine.numbers.blocks - l.before
