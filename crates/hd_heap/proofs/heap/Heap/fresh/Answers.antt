use Rattle.hd_heap.proofs.{GenerationSums.older_begun, GenerationSums.shares_small, RegionReads.closed_none, RegionReads.opened, RegionUse.free_read, RegionUse.region_held}
use Rattle.hd_heap.proofs.heap.Heap.fresh.Goals as goal

pub hold-requires : goal.hold-requires
hold-requires c =
    let heap = opened c.self.inside c.self.view_is c.self.invariant in
    let at = free_read heap c.requires.free c.index-number.ensures c.index_of.ensures
    c.index_mut.ensures.value in
    record {
      area = heap.kept.each _ c.index_mut.result.now at.index.here;
      generation = c.requires.generation;
    }

pub invariant_of-self : goal.invariant_of-self
invariant_of-self c =
    let heap = opened c.self.inside c.self.view_is c.self.invariant in
    let at = free_read heap c.requires.free c.index-number.ensures c.index_of.ensures
    c.index_mut.ensures.value in
    let is = region_held heap c.hold.new.self c.args.generation at c.hold.ensures.area c.hold.ensures.held
    c.pop_front.ensures.rest c.pop_front.ensures.capacity c.still_current-self-inside.ensures in
    closed_none is (older_begun at.index _ (shares_small is)
    (heap.kept.each _ c.index_mut.result.now at.index.here) at.free c.hold.ensures.held c.size.ensures
    c.add.ensures c.self.invariant.4)

pub returns : goal.returns
returns c =
    let heap = opened c.self.inside c.self.view_is c.self.invariant in
    let at = free_read heap c.requires.free c.index-number.ensures c.index_of.ensures
    c.index_mut.ensures.value in
    let is = region_held heap c.hold.new.self c.args.generation at c.hold.ensures.area c.hold.ensures.held
    c.pop_front.ensures.rest c.pop_front.ensures.capacity c.still_current-self-inside.ensures in
    record { number = at.number; was_free = at.was_free; held = is.view }
