use Rattle.std.proofs.Common.{take, ◌≡◌}
use Rattle.std.specs.Prelude.{filter, sum_by}
use Rattle.hd_seen.specs.declared.SeenBlock.{SeenBlock}
use Rattle.hd_show.specs.{Blocks.free_in, Inside.rows_by}
use Rattle.hd_show.specs.Kinds.{block_is}
use Rattle.hd_show.proofs.kinds.free_of.Given as goal

abbrev pub invariant-loop-block : goal.invariant-loop-block
invariant-loop-block l =
    l.sum
    ≡ sum_by (λ (b : SeenBlock). free_in (rows_by l.rows) b.number)
    (filter (block_is l.kind) (take l.block-index l.blocks))
