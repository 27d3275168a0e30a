use Rattle.std.proofs.Common.{take, ◌≡◌, ◌≤◌}
use Rattle.std.specs.Prelude.{count_by}
use Rattle.hd_show.specs.Kinds.{block_is}
use Rattle.hd_show.proofs.kinds.count_blocks.Given as goal

abbrev pub invariant-loop-block : goal.invariant-loop-block
invariant-loop-block l =
    record {
      counted : l.count ≡ count_by (block_is l.kind) (take l.block-index l.blocks);
      few : l.count ≤ l.block-index;
    }
