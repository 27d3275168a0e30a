use Rattle.hd_heap.proofs.Basics.{REGION, arith, refl, ◌+◌, ◌/◌}
use Rattle.hd_heap.proofs.{RegionReads.IsIndex, RegionReads.opened, RegionReads.index_read, HeapSoundness.sound, RegionWalk.wanted_index, RegionWalk.wants_low, RegionWalk.given_some, RegionWalk.given_none}
use Rattle.hd_heap.proofs.heap.Heap.next_in_region.Goals.{After-index}
use Rattle.hd_heap.proofs.heap.Heap.next_in_region.Goals as goal

pub returns-then-at-lt-REGION : goal.returns-then-at-lt-REGION
returns-then-at-lt-REGION c =
    let heap = opened c.self.inside c.self.view_is c.self.invariant in
    record {
      next = λ a want after.
          omega (arith, (wanted_index heap c.args.wanted a want).1, c.if-at-lt-REGION.true);
      sound = sound heap;
    }

pub returns-then-index-regions : goal.returns-then-index-regions
returns-then-index-regions c =
    let heap = opened c.self.inside c.self.view_is c.self.invariant in
    record {
      next = λ a want after.
          let p = wanted_index heap c.args.wanted a want in
          absurd (let known = c.index_of-index.ensures in
          omega (arith, p.1, p.2, after, known, c.if-index-regions.true, c.len-regions.ensures));
      sound = sound heap;
    }

index : (c : After-index) → IsIndex c.self.inside.areas.items (c.args.at.0 / REGION) c.index_of-index.result
    c.index.result.now
index c = index_read c.self.inside.areas.items (c.args.at.0 / REGION) c.index_of-index.result
    c.index.result.now (omega (arith, c.index_of-index.ensures, c.if-at-lt-REGION.false))
    (omega (arith, c.if-index-regions.false, c.len-regions.ensures)) c.index.ensures

pub wanted_after-requires-clause-area : goal.wanted_after-requires-clause-area
wanted_after-requires-clause-area c =
    c.self.invariant.0.each _ _ (index ((goal.at.wanted_after-requires-clause-area c).After-index)).here

pub address_in-requires-clause-offset : goal.address_in-requires-clause-offset
address_in-requires-clause-offset c =
    let p = index ((goal.at.address_in-requires-clause-offset c).After-index) in
    wants_low c.args.wanted c.index.result.now c.in-Some.offset (c.self.invariant.0.each _ _ p.here)
    c.in-Some.ensures.0

pub returns-in-Some : goal.returns-in-Some
returns-in-Some c =
    let heap = opened c.self.inside c.self.view_is c.self.invariant in
    record {
      next = given_some heap c.args.wanted (c.offset_of.result + 1) c.in-Some.offset (c.args.at.0 + 1) 0
          c.address_in.result (index ((goal.at.returns-in-Some c).After-index)) c.in-Some.ensures
          c.address_in.ensures (omega (arith, c.offset_of.ensures));
      sound = sound heap;
    }

pub returns-in-None : goal.returns-in-None
returns-in-None c =
    let heap = opened c.self.inside c.self.view_is c.self.invariant in
    record {
      next = given_none heap c.args.wanted (c.offset_of.result + 1) (c.args.at.0 + 1) _
          (index ((goal.at.returns-in-None c).After-index)) c.in-None.ensures (omega (arith, c.offset_of.ensures))
          refl;
      sound = sound heap;
    }
