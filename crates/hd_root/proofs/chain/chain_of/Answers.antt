use Rattle.std.proofs.Common.{refl}
use Rattle.hd_root.proofs.ChainRoom.{few_nodes}
use Rattle.hd_root.proofs.chain.chain_of.Goals as goal

pub invariant_of-result : goal.invariant_of-result
invariant_of-result c =
    few_nodes c.count-count.ensures.sound c.requires.objects c.len-len.ensures.once c.requires.last
    c.in_ok-nodes.ensures.chain c.in_ok-nodes.ensures.few

pub returns : goal.returns
returns c = record { nodes = c.in_ok-nodes.nodes.items; are = refl; back = c.in_ok-nodes.ensures.chain }
