use Rattle.hd_seg.proofs.Basics.{arith}
use Rattle.hd_seg.proofs.ChainRings.{pushed_last, pushed_rings, pushed_view, room_few}
use Rattle.hd_seg.proofs.chains.Chains.push.Goals as goal

pub overflow_add-node : goal.overflow_add-node
overflow_add-node c =
    let few = room_few c.self.invariant c.self.view_is c.requires.within in omega (arith, few)

pub index_mut-requires : goal.index_mut-requires
index_mut-requires c =
    let inside = pushed_last c.self.invariant c.self.view_is c.args.kind c.args.block c.requires.within
    c.requires.few c.requires.new c.number-end.ensures.value c.index-last.ensures in
    omega (arith, inside, c.self.inside.next.ok.0)

pub invariant_of-self : goal.invariant_of-self
invariant_of-self c =
    pushed_rings c.self.invariant c.self.view_is c.args.kind c.args.block c.requires.within c.requires.few
    c.requires.new c.number-end.ensures.value c.index-last.ensures

pub returns : goal.returns
returns c =
    pushed_view c.self.invariant c.self.view_is c.args.kind c.args.block c.requires.within c.requires.few
    c.requires.new c.number-end.ensures.value c.index-last.ensures
