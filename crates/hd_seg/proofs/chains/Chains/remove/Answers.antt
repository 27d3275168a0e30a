use Rattle.hd_seg.proofs.Basics.{arith}
use Rattle.hd_seg.proofs.ChainRings.{after_inside, before_inside, node_back, node_few, node_inside, removed_rings, removed_view}
use Rattle.hd_seg.proofs.chains.Chains.remove.Goals as goal

pub overflow_add-block : goal.overflow_add-block
overflow_add-block c =
    let few = node_few c.self.invariant c.self.view_is c.args.block c.requires in omega (arith, few)

pub index-before-requires : goal.index-before-requires
index-before-requires c =
    let inside = node_back c.self.invariant c.self.view_is c.args.block c.requires in
    omega (arith, inside, c.self.inside.previous.ok.0)

pub overflow_add-block-2 : goal.overflow_add-block-2
overflow_add-block-2 c =
    let few = node_few c.self.invariant c.self.view_is c.args.block c.requires in omega (arith, few)

pub index-after-requires : goal.index-after-requires
index-after-requires c =
    let inside = node_inside c.self.invariant c.self.view_is c.args.block c.requires in
    omega (arith, inside, c.self.inside.next.ok.0)

pub index_mut-requires : goal.index_mut-requires
index_mut-requires c =
    let inside = before_inside c.self.invariant c.self.view_is c.args.block c.requires
    c.index-before.ensures c.index-after.ensures in
    omega (arith, inside, c.self.inside.next.ok.0)

pub index_mut-requires-2 : goal.index_mut-requires-2
index_mut-requires-2 c =
    let inside = after_inside c.self.invariant c.self.view_is c.args.block c.requires
    c.index-before.ensures c.index-after.ensures in
    omega (arith, inside, c.self.inside.previous.ok.0)

pub invariant_of-self : goal.invariant_of-self
invariant_of-self c =
    removed_rings c.self.invariant c.self.view_is c.args.block c.requires c.index-before.ensures
    c.index-after.ensures

pub returns : goal.returns
returns c =
    removed_view c.self.invariant c.self.view_is c.args.block c.requires c.index-before.ensures
    c.index-after.ensures
