use Rattle.hd_custody.proofs.Basics.{Allocates, Known, Named, View, ap, arith, slot_number, subst, sym, ◌∙◌, ◌≡◌}
use Rattle.hd_custody.proofs.CallEnds.{answer, found_none, found_some, allocates}
use Rattle.hd_custody.proofs.WholeMiss.{none_is_whole}
use Rattle.hd_custody.proofs.types.Custody.allocate.Goals.{then-slot-eq0, else-slot-eq0}
use Rattle.hd_custody.proofs.types.Custody.allocate.Goals as goal

pub returns-clause-done : goal.returns-clause-done
returns-clause-done g c =
    let W = g.row.W.Denot in
    let blocks = c.args.self.now.blocks in
    let size : c.self.inside.blocks ≡ blocks = ap (λ (n : Named). n.blocks) c.self.view_is in
    let same : slot_number c.if-slot-eq0.result ≡ answer c.find-slot.result = elim c.if-slot-eq0.branch [
      | then-slot-eq0 w ↦ (ap slot_number w.result-is
          ∙ sym (found_none c.find-slot.result w.if-slot-eq0.true))
      | else-slot-eq0 w ↦ (ap slot_number w.result-is
          ∙ sym (found_some c.find-slot.result w.if-slot-eq0.false))
    ] in
    subst (λ k. Allocates k blocks (slot_number c.if-slot-eq0.result) c.args.seat.now.view
    c.find-slot.new.caller.view) c.number.ensures.value
    (subst (λ (v : View W). Allocates c.number.result blocks (slot_number c.if-slot-eq0.result) v
    c.find-slot.new.caller.view) (ap (λ (k : Known W). k.view) c.seat.view_is)
    (allocates c.number.result blocks (omega (arith, size, c.self.invariant)) c.seat.inside.caller
    c.find-slot.new.caller c.find-slot.result _ same c.find-slot.ensures.made))

pub returns-clause-none : goal.returns-clause-none
returns-clause-none g c =
    none_is_whole _ _ c.if-slot-eq0.result c.find-slot.new.caller.view.trace (returns-clause-done g c).steps
