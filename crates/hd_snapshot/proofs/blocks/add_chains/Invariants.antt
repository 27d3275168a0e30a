use Rattle.std.proofs.Common.{take, ◌++◌, ◌≡◌}
use Rattle.std.specs.Prelude.{flat_map}
use Rattle.hd_model.specs.Kinds.{all_kinds}
use Rattle.hd_seen.specs.Seen.{chain_seen}
use Rattle.hd_snapshot.proofs.blocks.add_chains.Given as goal

-- those of the kinds so far
abbrev pub invariant-loop-kind : goal.invariant-loop-kind
invariant-loop-kind l =
    l.seen.items ≡ l.fn.seen.items ++ flat_map (chain_seen l.table) (take l.kind-index all_kinds)
