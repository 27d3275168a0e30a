use Rattle.hd_heap.proofs.Basics.{Any, REGION, arith, cases_lt, inl, inr, refl, region_of, ◌+◌, ◌/◌}
use Rattle.hd_heap.proofs.{RegionReads.opened, RegionReads.index_read, RegionReads.IsIndex, RegionWalk.none_condemned, RegionWalk.wanted_index, NextObjects.condemned_has, HeapSoundness.sound, CondemnedSums.amount_some, CondemnedSums.region_amount}
use Rattle.hd_heap.proofs.heap.Heap.next_condemned_region.Goals.{After-index}
use Rattle.hd_heap.proofs.heap.Heap.next_condemned_region.Goals as goal

index : (c : After-index)
    → IsIndex c.self.inside.areas.items (c.loop-index.index + 1) c.loop-index.index c.index.result.now
index c =
    index_read c.self.inside.areas.items (c.loop-index.index + 1) c.loop-index.index c.index.result.now refl
    (omega (arith, c.loop-index-test.true, c.len-index-end.ensures)) c.index.ensures

pub has_condemned-requires : goal.has_condemned-requires
has_condemned-requires c = c.self.invariant.0.each (c.loop-index.index + 1) c.index.result.now
    (index ((goal.at.has_condemned-requires c).After-index)).here

pub returns-then-has_condemned : goal.returns-then-has_condemned
unfolding region_of
returns-then-has_condemned c =
    let heap = opened c.self.inside c.self.view_is c.self.invariant in
    let p = index ((goal.at.returns-then-has_condemned c).After-index) in
    let here = region_amount heap p c.args.n (c.has_condemned.ensures.young c.if-has_condemned.true) in
    let (x, is) = amount_some here (c.has_condemned.ensures.some c.if-has_condemned.true) in
    record {
      walk = record {
        at = x;
        member = is.0;
        region = is.1;
        beyond = omega (arith, c.loop-index.auto.index);
        least = λ a of later. omega (arith, c.loop-index.invariant a of later);
      };
      sound = sound heap;
    }

pub loop-index-preserved : goal.loop-index-preserved
unfolding region_of
loop-index-preserved c = λ a of later.
    let heap = opened c.self.inside c.self.view_is c.self.invariant in
    let p = index ((goal.at.loop-index-preserved c).After-index) in
    omega (
      arith,
      c.loop-index.invariant a of later,
      none_condemned heap c.args.n p (c.has_condemned.ensures.none c.if-has_condemned.false) a of,
    )

pub returns : goal.returns
unfolding region_of
returns c =
    let heap = opened c.self.inside c.self.view_is c.self.invariant in
    record {
      walk = λ a of. elim (cases_lt c.args.after (a.0 / REGION)) [
        | inl later ↦
            let p = wanted_index heap Any a (condemned_has c.args.self.now c.args.n a of) in
            absurd (let known = c.loop-index.invariant a of later in
            omega (arith, known, p.1, p.2, c.loop-index-test.false, c.len-index-end.ensures))
        | inr before ↦ before
      ];
      sound = sound heap;
    }
