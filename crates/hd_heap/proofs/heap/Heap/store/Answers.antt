use Rattle.hd_heap.proofs.Basics.{Heap, has_object, subst, sym, true, ◌≡◌}
use Rattle.hd_heap.proofs.HeapValues.{has_with_object}
use Rattle.hd_heap.proofs.heap.Heap.store.Goals as goal

pub set_card-requires : goal.set_card-requires
set_card-requires c =
    subst (λ (h : Heap). has_object h c.args.at ≡ true) (sym c.write.ensures)
    (has_with_object c.args.self.now c.args.at c.args.at _ c.requires.object)
