use Rattle.hd_heap.proofs.Basics.{and_parts, both_ways, card_of}
use Rattle.hd_heap.proofs.{HeapSoundness.sound, RegionReads.noted, RegionReads.opened}
use Rattle.hd_heap.proofs.heap.Heap.next_carded.Goals as goal

pub returns-then-not-carding : goal.returns-then-not-carding
returns-then-not-carding c =
    let heap = opened c.self.inside c.self.view_is c.self.invariant in
    record {
      walk = λ a is. absurd (both_ways _ ((noted heap).flags.cards c.if-not-carding.true (card_of a))
          (and_parts _ _ is).1);
      sound = sound heap;
    }
