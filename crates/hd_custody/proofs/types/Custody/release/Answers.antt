use Rattle.hd_custody.proofs.Basics.{Acting, IsSeated, IsSlot, Known, Named, Releases, View, ap, arith, not, subst, sym, ◌==◌, ◌≡◌, ◌≢◌}
use Rattle.hd_custody.proofs.{HeldSlots.every_filter, CallEnds.releases}
use Rattle.hd_custody.proofs.types.Custody.release.Goals as goal

pub invariant_of-seat : goal.invariant_of-seat
invariant_of-seat g c =
    let caller = c.seat.inside.caller in
    subst (λ (a : Acting g.row.W.Denot). IsSeated (a.view, a.out)) (sym c.release_of_kind.ensures.made.only) (
      c.seat.invariant.0,
      c.seat.invariant.1,
      every_filter (λ p. IsSlot p.0 × (p.1 ≢ 0))
          (λ p. not (p.0 == c.args.slot.0)) caller.view.held c.seat.invariant.2,
    )

pub returns-clause-done : goal.returns-clause-done
returns-clause-done g c =
    let W = g.row.W.Denot in
    let blocks = c.args.self.now.blocks in
    let size : c.self.inside.blocks ≡ blocks = ap (λ (n : Named). n.blocks) c.self.view_is in
    subst (λ k. Releases k blocks c.args.slot.0 c.args.seat.now.view c.release_of_kind.new.caller.view)
    c.number.ensures.value
    (subst (λ (v : View W). Releases c.number.result blocks c.args.slot.0 v c.release_of_kind.new.caller.view)
    (ap (λ (k : Known W). k.view) c.seat.view_is)
    (releases c.number.result blocks (omega (arith, size, c.self.invariant)) c.args.slot.0
    c.seat.inside.caller c.release_of_kind.new.caller c.release_of_kind.ensures.made))
