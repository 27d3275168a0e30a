use Rattle.std.specs.Option.{option_map_or}
use Rattle.hd_model.specs.declared.data.Kind.TheVariants.{Dependent}
use Rattle.hd_model.specs.Table.{chain_of}
use Rattle.hd_root.proofs.LinkRows.{left_from, IsOnChain}
use Rattle.hd_root.proofs.dependents.dependents_of.Given as goal

abbrev pub invariant-loop-block : goal.invariant-loop-block
invariant-loop-block l = IsOnChain l.seg l.dependents l.block

abbrev pub decreases-loop-block : goal.decreases-loop-block
decreases-loop-block l = option_map_or (left_from (chain_of l.seg Dependent)) l.block 0
