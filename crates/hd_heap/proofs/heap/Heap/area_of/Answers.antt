use Rattle.hd_heap.proofs.Basics.{IsObjectOf, arith, refl, subst, sym}
use Rattle.hd_heap.proofs.RegionReads.{opened, index_within, found, found_read, object_of}
use Rattle.hd_heap.proofs.heap.Heap.area_of.Goals as goal

pub overflow_sub-at : goal.overflow_sub-at
overflow_sub-at c =
    let heap = opened c.self.inside c.self.view_is c.self.invariant in
    omega (arith, (found heap c.args.at c.requires).2.located.index.number)

pub index-requires : goal.index-requires
index-requires c =
    let i = index_within (opened c.self.inside c.self.view_is c.self.invariant) c.args.at c.requires refl in
    omega (arith, i)

pub returns : goal.returns
returns c =
    subst (IsObjectOf c.args.self.now c.args.at c.index.result.now) (sym c.offset_of.ensures)
    (object_of c.args.at
    (found_read (opened c.self.inside c.self.view_is c.self.invariant) c.args.at c.requires refl
    c.index.ensures))
