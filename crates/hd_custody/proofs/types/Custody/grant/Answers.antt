use Rattle.hd_custody.proofs.Basics.{Acting, IsSeated, Named, ap, arith, handle_block, subst, sym}
use Rattle.hd_custody.proofs.SeatCalls.{granted_seated}
use Rattle.hd_custody.proofs.types.Custody.grant.Goals as goal

pub invariant_of-seat : goal.invariant_of-seat
invariant_of-seat g c =
    let inside = c.requires.blocks.inside in
    let blocks = ap (λ (n : Named). n.blocks) c.self.view_is in
    let block = ap handle_block c.in-One.is in
    subst (λ (a : Acting g.row.W.Denot). IsSeated (a.view, a.out)) (sym c.give.ensures.view)
    (granted_seated c.number.result c.in-One.block 0 (c.seat.inside.caller.view, c.seat.inside.caller.out)
    (omega (arith, inside.0, block))
    (omega (arith, inside.1, block, blocks, c.self.invariant)) c.seat.invariant)

pub invariant_of-seat-in-Two : goal.invariant_of-seat-in-Two
invariant_of-seat-in-Two g c =
    let inside = c.requires.blocks.inside in
    let blocks = ap (λ (n : Named). n.blocks) c.self.view_is in
    let block = ap handle_block c.in-Two.is in
    subst (λ (a : Acting g.row.W.Denot). IsSeated (a.view, a.out)) (sym c.give-in-Two.ensures.view)
    (granted_seated c.number-in-Two.result c.in-Two.block c.in-Two.extra
    (c.seat.inside.caller.view, c.seat.inside.caller.out) (omega (arith, inside.0, block))
    (omega (arith, inside.1, block, blocks, c.self.invariant)) c.seat.invariant)
