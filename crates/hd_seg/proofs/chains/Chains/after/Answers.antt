use Rattle.hd_seg.proofs.Basics.{arith, ◌∙◌}
use Rattle.hd_seg.proofs.ChainRings.{after_seen, node_few, node_inside}
use Rattle.hd_seg.proofs.chains.Chains.after.Goals as goal

pub overflow_add-block : goal.overflow_add-block
overflow_add-block c =
    let few = node_few c.self.invariant c.self.view_is c.args.block c.requires in omega (arith, few)

pub index-requires : goal.index-requires
index-requires c =
    let inside = node_inside c.self.invariant c.self.view_is c.args.block c.requires in
    omega (arith, inside, c.self.inside.next.ok.0)

pub returns : goal.returns
returns c k before after is =
    c.block_in.ensures
    ∙ after_seen c.self.invariant c.self.view_is c.args.block c.requires c.index.result.now c.index.ensures k
    before after is
