use Rattle.hd_custody.proofs.Basics.{Acting, Has, IsSeated, Kinded, Known, Named, ROWS, View, ap, arith, closed, subst, sym, ℕ, ◌*◌, ◌+◌, ◌<◌, ◌∙◌, ◌≡◌}
use Rattle.hd_custody.proofs.{LeaveSteps.clear_steps, SeatCalls.closed_kinded, SeatCalls.block_real}
use Rattle.hd_custody.proofs.types.Custody.withdraw.Goals as goal

pub store-requires : goal.store-requires
store-requires g c =
    let W = g.row.W.Denot in
    let inner = c.caller.inside.inner in
    let now : c.args.seat.now.view ≡ inner.me.0 = ap (λ (k : Known W). k.view) (sym c.seat.view_is)
    ∙ ap (λ (a : Acting W). a.view) (sym c.caller.view_is) in
    let kinded = subst (λ (a : Acting W). Kinded a.view.held) (sym c.caller.view_is) c.seat.invariant.2 in
    let has : (r : ℕ) → r < ROWS → Has (ROWS * c.args.block + r) inner.me.0.held =
    λ r lt. subst (λ (v : View W). Has (ROWS * c.args.block + r) v.held) now (c.requires.all r lt) in
    let real = block_real c.args.block 0 inner.me.0.held (omega arith) kinded (has 0 (omega arith)) in (
      ap (λ (a : Acting W). a.table) c.caller.view_is ∙ ap (λ (k : Known W). k.table) c.seat.view_is
          ∙ c.requires.seat
          ∙ ap (λ (n : Named). n.table) (sym c.self.view_is),
      omega (arith, c.self.invariant, real.1),
      clear_steps _ _ _ _ _ _ c.caller.invariant c.args.block
          real.0 real.1 (ap (λ (v : View W). v.has_gate) (sym now) ∙ c.requires.gate) has,
    )

pub invariant_of-seat : goal.invariant_of-seat
invariant_of-seat g c =
    let W = g.row.W.Denot in
    subst IsSeated (sym c.store.ensures.2)
    (subst (λ (a : Acting W). IsSeated (closed c.args.block a.view, a.out)) (sym c.caller.view_is) (
      c.seat.invariant.0,
      c.seat.invariant.1,
      closed_kinded c.args.block c.seat.inside.caller.view.held c.seat.invariant.2,
    ))
