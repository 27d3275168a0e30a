use Rattle.hd_heap.proofs.Basics.{arith, sym}
use Rattle.hd_heap.proofs.RegionReads.{opened, held_index, held_read, card_there}
use Rattle.hd_heap.proofs.heap.Heap.has_set_card.Goals as goal

pub index-requires : goal.index-requires
index-requires c =
    let i = held_index (opened c.self.inside c.self.view_is c.self.invariant) c.requires.region
    c.index_of.ensures in
    omega (arith, i.1)

pub returns : goal.returns
returns c =
    let heap = opened c.self.inside c.self.view_is c.self.invariant in
    let t = held_read heap c.requires.region c.index_of.ensures c.index.ensures in
    sym (card_there heap c.args.card t.index c.requires.card)
