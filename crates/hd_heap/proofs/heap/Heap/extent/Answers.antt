use Rattle.hd_heap.proofs.Basics.{Any, arith, refl, region_of, subst, sym, ◌+◌, ◌<◌, ◌^◌}
use Rattle.hd_heap.proofs.CondemnedSums.{IsExtentBelow}
use Rattle.hd_heap.proofs.{RegionReads.opened, RegionReads.index_read, RegionReads.IsIndex, RegionWalk.none_condemned, RegionWalk.wanted_index, NextObjects.condemned_has, HeapSoundness.sound, CondemnedSums.count_small, CondemnedSums.region_amount, CondemnedSums.extent_starts, CondemnedSums.extent_skips, CondemnedSums.extent_more, CondemnedSums.extent_ends}
use Rattle.hd_heap.proofs.heap.Heap.extent.Goals.{After-index-area, then-has_condemned, else-has_condemned}
use Rattle.hd_heap.proofs.heap.Heap.extent.Goals as goal

pub loop-index-init : goal.loop-index-init
unfolding region_of
loop-index-init c =
    let heap = opened c.self.inside c.self.view_is c.self.invariant in
    extent_starts (sound heap) _
    (λ a is. let p = wanted_index heap Any a is in omega (arith, p.1, p.2, c.len.ensures))
    (omega (arith, heap.kept.few, c.len.ensures))

index : (c : After-index-area)
    → IsIndex c.self.inside.areas.items (c.loop-index.index + 1) c.loop-index.index c.index-area.result.now
index c =
    index_read c.self.inside.areas.items (c.loop-index.index + 1) c.loop-index.index c.index-area.result.now
    refl (omega (arith, c.loop-index-test.true, c.len-index-end.ensures)) c.index-area.ensures

pub has_condemned-requires : goal.has_condemned-requires
has_condemned-requires c = c.self.invariant.0.each (c.loop-index.index + 1) c.index-area.result.now
    (index ((goal.at.has_condemned-requires c).After-index-area)).here

-- the sums and the number of the region have 32 bits
fits : (c : After-index-area) → (c.loop-index.extent.objects + c.index-area.result.now.count < 2 ^ 32)
    × (c.loop-index.extent.cells + c.index-area.result.now.live < 2 ^ 32)
    × (c.loop-index.index + 2 < 2 ^ 32)
fits c =
    let heap = opened c.self.inside c.self.view_is c.self.invariant in
    let p = index c in
    let small = count_small heap p in
    let w = c.loop-index.invariant in (
      omega (arith, w.few, w.cells, small.0, small.1, p.within, heap.kept.few),
      omega (arith, w.cells, small.1, p.within, heap.kept.few),
      omega (arith, p.within, heap.kept.few),
    )

pub overflow_add-extent-then-has_condemned : goal.overflow_add-extent-then-has_condemned
overflow_add-extent-then-has_condemned c =
    omega (arith, (fits ((goal.at.overflow_add-extent-then-has_condemned c).After-index-area)).0)

pub overflow_add-extent-then-has_condemned-2 : goal.overflow_add-extent-then-has_condemned-2
overflow_add-extent-then-has_condemned-2 c =
    omega (arith, (fits ((goal.at.overflow_add-extent-then-has_condemned-2 c).After-index-area)).1)

pub overflow_add-extent-then-has_condemned-3 : goal.overflow_add-extent-then-has_condemned-3
overflow_add-extent-then-has_condemned-3 c =
    omega (
      arith,
      (fits ((goal.at.overflow_add-extent-then-has_condemned-3 c).After-index-area)).2,
      c.loop-index.invariant.fewer,
    )

pub overflow_cast-extent : goal.overflow_cast-extent
overflow_cast-extent c = omega (arith, c.self.invariant.0.few, c.len.ensures)

pub overflow_add-extent : goal.overflow_add-extent
overflow_add-extent c = omega (arith, c.self.invariant.0.few, c.len.ensures)

pub loop-index-preserved : goal.loop-index-preserved
unfolding region_of
loop-index-preserved c =
    let heap = opened c.self.inside c.self.view_is c.self.invariant in
    let p = index ((goal.at.loop-index-preserved c).After-index-area) in
    let next = IsExtentBelow c.args.self.now c.args.n (c.loop-index.index + 1 + 1) in
    elim c.if-has_condemned.branch [
      | then-has_condemned w ↦ subst next (sym w.extent-is) (extent_more (c.loop-index.index + 1) _ _
          c.loop-index.invariant
          (region_amount heap p c.args.n (c.has_condemned.ensures.young w.if-has_condemned.true))
          (c.has_condemned.ensures.some w.if-has_condemned.true) (count_small heap p))
      | else-has_condemned w ↦ subst next (sym w.extent-is) (extent_skips (c.loop-index.index + 1)
          c.loop-index.invariant
          (none_condemned heap c.args.n p (c.has_condemned.ensures.none w.if-has_condemned.false)))
    ]

pub returns : goal.returns
unfolding region_of
returns c =
    let heap = opened c.self.inside c.self.view_is c.self.invariant in
    record {
      extent = extent_ends (c.loop-index.index + 1) c.loop-index.invariant
          (λ a is. let p = wanted_index heap Any a (condemned_has c.args.self.now c.args.n a is) in
          omega (arith, p.1, p.2, c.loop-index-test.false, c.len-index-end.ensures));
      sound = sound heap;
    }
