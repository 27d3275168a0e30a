use Rattle.hd_heap.proofs.Basics.{REGION, arith, cases_lt, inl, inr, refl, ◌*◌, ◌+◌}
use Rattle.hd_heap.proofs.{RegionReads.IsIndex, RegionReads.opened, RegionReads.index_read, HeapSoundness.sound, RegionWalk.wanted_index, RegionWalk.wants_low, RegionWalk.given_some, RegionWalk.given_none}
use Rattle.hd_heap.proofs.heap.Heap.first_from.Goals.{After-index}
use Rattle.hd_heap.proofs.heap.Heap.first_from.Goals as goal

index : (c : After-index)
    → IsIndex c.self.inside.areas.items (c.loop-index.index + 1) c.loop-index.index c.index.result.now
index c =
    index_read c.self.inside.areas.items (c.loop-index.index + 1) c.loop-index.index c.index.result.now refl
    (omega (arith, c.loop-index-test.true, c.len-index-end.ensures)) c.index.ensures

pub first_wanted-requires : goal.first_wanted-requires
first_wanted-requires c =
    c.self.invariant.0.each _ _ (index ((goal.at.first_wanted-requires c).After-index)).here

pub address_in-requires-clause-offset : goal.address_in-requires-clause-offset
address_in-requires-clause-offset c =
    let p = index ((goal.at.address_in-requires-clause-offset c).After-index) in
    wants_low c.args.wanted c.index.result.now c.in-Some.offset (c.self.invariant.0.each _ _ p.here)
    c.in-Some.ensures.0

pub returns-in-Some : goal.returns-in-Some
returns-in-Some c =
    let heap = opened c.self.inside c.self.view_is c.self.invariant in
    let g = given_some heap c.args.wanted 0 c.in-Some.offset ((c.loop-index.index + 1) * REGION) 0
    c.address_in.result (index ((goal.at.returns-in-Some c).After-index)) c.in-Some.ensures c.address_in.ensures
    (omega arith) in
    record {
      first = (
        g.0,
        omega (arith, g.1, c.loop-index.auto.index),
        λ b want after. g.2 b want (c.loop-index.invariant b want after),
      );
      sound = sound heap;
    }

pub loop-index-preserved : goal.loop-index-preserved
loop-index-preserved c = λ b want after.
    given_none (opened c.self.inside c.self.view_is c.self.invariant) c.args.wanted 0
    ((c.loop-index.index + 1) * REGION) ((c.loop-index.index + 1 + 1) * REGION)
    (index ((goal.at.loop-index-preserved c).After-index)) c.in_default.ensures (omega arith) refl b want
    (c.loop-index.invariant b want after)

pub returns : goal.returns
returns c =
    let heap = opened c.self.inside c.self.view_is c.self.invariant in
    record {
      first = λ b want. elim (cases_lt b.0 ((c.args.first + 1) * REGION)) [
        | inl below ↦ below
        | inr past ↦
            let p = wanted_index heap c.args.wanted b want in
            absurd (let known = c.loop-index.invariant b want past in
            omega (arith, known, p.1, p.2, c.loop-index-test.false, c.len-index-end.ensures))
      ];
      sound = sound heap;
    }
