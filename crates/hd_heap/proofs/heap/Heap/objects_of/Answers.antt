use Rattle.hd_heap.proofs.Basics.{Heap, IsWalkIn, WalkOf, ap, arith, subst, sym}
use Rattle.hd_heap.proofs.{CondemnedWalk.walk_begins, RegionReads.opened, RegionReads.held_index, RegionReads.held_read}
use Rattle.hd_heap.proofs.heap.Heap.objects_of.Goals as goal

pub index-requires : goal.index-requires
index-requires c =
    let i = held_index (opened c.self.inside c.self.view_is c.self.invariant) c.requires c.index_of.ensures in
    omega (arith, i.1)

pub invariant_of-result : goal.invariant_of-result
invariant_of-result c =
    let heap = opened c.self.inside c.self.view_is c.self.invariant in
    subst (λ (h : Heap). IsWalkIn h c.args.region 0 c.deref.result.now) (sym c.of.ensures)
    (walk_begins heap (held_read heap c.requires c.index_of.ensures c.index.ensures) c.deref.result.now
    c.deref.ensures)

pub returns : goal.returns
returns c = ap (λ (h : Heap). let w : WalkOf = record { heap = h; region = c.args.region; end = 0 } in w)
    c.of.ensures
