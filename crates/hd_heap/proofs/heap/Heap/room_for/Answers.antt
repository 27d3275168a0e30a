use Rattle.hd_heap.proofs.Basics.{AreFull, AreOthersFull, HasLeft, Heap, IsRoom, ap, arith, subst, sym, ◌∙◌}
use Rattle.hd_heap.proofs.{HeapValues.room_was, HeapValues.room_made, HeapNotes.others_begun}
use Rattle.hd_heap.proofs.HeapLeft.{left_begun}
use Rattle.hd_heap.proofs.heap.Heap.room_for.Goals as goal

pub returns-in-Some-clause-ok : goal.returns-in-Some-clause-ok
returns-in-Some-clause-ok c = room_was c.args.self.now c.in-Some.region c.args.size c.in-Some.ensures

pub invariant_of-self : goal.invariant_of-self
invariant_of-self c = (
  c.self.invariant.0,
  subst (λ (h : Heap). AreOthersFull h c.fresh-region.result)
      (sym (c.self.view_is ∙ c.fresh-region.ensures.held))
      (others_begun c.reserve_regions.new.self c.fresh-region.result
      (subst AreFull (sym c.reserve_regions.ensures.same) c.in_default.ensures)),
  c.self.invariant.2,
  subst (λ (h : Heap). HasLeft h c.fresh-region.result c.self.inside.used c.left_in_fresh-self-inside.result)
      (sym (c.self.view_is ∙ c.fresh-region.ensures.held))
      (left_begun c.reserve_regions.new.self c.fresh-region.result c.self.inside.used
      c.left_in_fresh-self-inside.result c.left_in_fresh-self-inside.ensures.region
      (omega (
        arith,
        c.left_in_fresh-self-inside.ensures.limit,
        ap (λ (h : Heap). h.limit) (c.self.view_is ∙ c.fresh-region.ensures.held),
      ))),
  c.self.invariant.4,
)

pub returns-clause-ok : goal.returns-clause-ok
returns-clause-ok c =
    subst (λ (h : Heap). IsRoom c.args.self.now h c.fresh-region.result c.args.size) (sym c.self.view_is)
    (room_made c.args.self.now c.reserve_regions.new.self c.fresh-region.new.self c.fresh-region.result
    c.args.size
    c.reserve_regions.ensures.same c.reserve_regions.ensures.kept c.in_ok-reserve_regions.ensures.enough
    c.fresh-region.ensures.number c.fresh-region.ensures.was_free c.fresh-region.ensures.held c.requires
    c.in_default.ensures)
