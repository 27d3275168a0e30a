use Rattle.hd_store.proofs.StoreWords.{IsFree, Machine, arith, machine_of, parts, refl, subst}
use Rattle.hd_store.proofs.FreeSlots.{free_in_state}
use Rattle.hd_store.proofs.StateHeap.{over-heap}
use Rattle.hd_store.proofs.contents.Contents.free_slots.Goals as goal
use Rattle.hd_model.specs.Counting.{Counts}

pub free_slots-requires : goal.free_slots-requires
free_slots-requires c = record {
  few = omega (arith, c.self.invariant.blocks);
  within = c.self.invariant.uses.within;
}

pub returns : goal.returns
returns c =
    let f = parts c.self.inside in
    let over = over-heap f (machine_of f) refl c.self.invariant in
    subst (λ (m : Machine). Counts (IsFree m.state c.args.kind) c.free_slots.result) c.self.view_is
    (free_in_state over.table c.args.kind c.free_slots.result c.free_slots.ensures)
