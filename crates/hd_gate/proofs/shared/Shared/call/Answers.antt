use Rattle.hd_gate.proofs.Basics.{CallerView, HadRoom, HasDone, arith, caller_view_of, padded_value, subst, sym, ◌+◌, ◌≡◌, ◌≤◌}
use Rattle.hd_gate.proofs.CallDone.{done_with, room_with}
use Rattle.hd_gate.proofs.shared.Shared.call.Goals as goal

pub returns-in-Ok-clause-done : goal.returns-in-Ok-clause-done
returns-in-Ok-clause-done g c =
    let seat = c.caller.inside.seat in
    let number = c.caller.inside.number in
    let room = padded_value c.caller.inside.room in
    let left = padded_value c.new-caller-inside.result in
    let some : 1 ≤ room = subst (λ (p : CallerView). 1 ≤ p.room) (sym c.caller.view_is) c.requires.room in
    let less : left + 1 ≡ room = omega (arith, some, c.new-caller-inside.ensures, c.deref-room.ensures) in
    subst (λ (p : CallerView).
    HasDone p (caller_view_of c.turn.new.seat number left) c.args.cmd c.in-Ok.reply)
    c.caller.view_is
    (done_with (caller_view_of seat number seat.view.room)
    (caller_view_of c.turn.new.seat number c.turn.new.seat.view.room) room left c.args.cmd c.in-Ok.reply
    less c.in-Ok.ensures.done)

pub returns-in-Err-clause-fits : goal.returns-in-Err-clause-fits
returns-in-Err-clause-fits g c =
    let seat = c.caller.inside.seat in
    let number = c.caller.inside.number in
    let room = padded_value c.caller.inside.room in
    let old = caller_view_of seat number seat.view.room in
    let new = caller_view_of c.turn.new.seat number c.turn.new.seat.view.room in
    subst (λ (q : CallerView). HadRoom q (caller_view_of c.turn.new.seat number room) c.args.cmd)
    c.caller.view_is
    (room_with old new room room c.args.cmd c.in-Err.ensures.fits)
