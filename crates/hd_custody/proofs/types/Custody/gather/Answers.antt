use Rattle.hd_custody.proofs.Basics.{Acting, Gathers, IsSeated, Known, Named, View, ap, arith, subst, sym, ◌∙◌, ◌≡◌}
use Rattle.hd_custody.proofs.SeatCalls.{block_kinded}
use Rattle.hd_custody.proofs.CallEnds.{answer, found_none, found_some, gathers_all}
use Rattle.hd_custody.proofs.types.Custody.gather.Goals.{then-block-eq0, else-block-eq0}
use Rattle.hd_custody.proofs.types.Custody.gather.Goals as goal

pub invariant_of-seat : goal.invariant_of-seat
invariant_of-seat g c =
    let caller = c.seat.inside.caller in
    subst (λ (a : Acting g.row.W.Denot). IsSeated (a.view, a.out)) (sym c.collect-block.ensures.made.only) (
      c.seat.invariant.0,
      c.seat.invariant.1,
      block_kinded c.collect-block.result c.number.result caller.view.held
          (let known = ap (λ (n : Named). n.blocks) c.self.view_is in
          omega (arith, c.collect-block.ensures.block, c.self.invariant, known))
          c.seat.invariant.2,
    )

pub returns-clause-done : goal.returns-clause-done
returns-clause-done g c =
    let W = g.row.W.Denot in
    let blocks = c.args.self.now.blocks in
    let size : c.self.inside.blocks ≡ blocks = ap (λ (n : Named). n.blocks) c.self.view_is in
    let returns_it : c.if-block-eq0.result ≡ answer c.collect-block.result = elim c.if-block-eq0.branch [
      | then-block-eq0 w ↦ (w.result-is ∙ sym (found_none c.collect-block.result w.if-block-eq0.true))
      | else-block-eq0 w ↦ (w.result-is ∙ sym (found_some c.collect-block.result w.if-block-eq0.false))
    ] in
    subst (λ k. Gathers k blocks c.if-block-eq0.result c.args.seat.now.view c.collect-block.new.caller.view)
    c.number.ensures.value
    (subst (λ (v : View W). Gathers c.number.result blocks c.if-block-eq0.result v
    c.collect-block.new.caller.view) (ap (λ (k : Known W). k.view) c.seat.view_is)
    (gathers_all c.number.result blocks (omega (arith, size, c.self.invariant)) c.seat.inside.caller
    c.collect-block.new.caller c.collect-block.result _ returns_it c.collect-block.ensures.made))
