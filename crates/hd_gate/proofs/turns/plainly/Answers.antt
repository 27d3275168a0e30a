use Rattle.hd_gate.proofs.Basics.{Cmd, Keeps, Known, None, Stayed, WorldView, ap, change_in, change_of, gave_back, ghosts, refl, subst, sym, took, ℕ, ◌∙◌, ◌≡◌}
use Rattle.hd_slots.proofs.StepLiveSlots.{LeavesThem, in_state}
use Rattle.hd_gate.proofs.GateLeave.{may_step, may_leave_with, turned}
use Rattle.hd_gate.proofs.PlainTurn.{plain_follows, plain_leaves, stays}
use Rattle.hd_gate.proofs.turns.plainly.Goals as goal

kept : (u : WorldView) (number : ℕ) (c : Cmd) → change_of c ≡ Keeps → LeavesThem (change_in u.state number c)
kept u number c keeps = subst LeavesThem (sym (in_state u.state number c Keeps (λ e. cc) keeps)) tt

pub step-done-requires : goal.step-done-requires
step-done-requires g c =
    may_step c.enter-world.result c.args.seat.now.view c.args.number c.args.cmd None
    c.enter-world.ensures.entered c.requires.turn.room c.requires.turn.idle.known c.requires.turn.valid tt

pub leave-requires-clause-follows : goal.leave-requires-clause-follows
leave-requires-clause-follows g c =
    let u = c.enter-world.result in
    let v = c.args.seat.now.view in
    may_leave_with c.args.seat.now.table c.enter-world.new.seat u c.step-done.new.self (took ghosts u v)
    c.enter-world.ensures.view refl
    (plain_follows c.args.number c.args.cmd u c.step-done.new.self
    (kept u c.args.number c.args.cmd c.requires.keeps) v c.requires.turn.idle
    c.requires.turn.room c.enter-world.ensures.entered c.step-done.result c.step-done.ensures)

pub returns-in-Err : goal.returns-in-Err
returns-in-Err g c =
    let u = c.enter-world.result in
    let w = c.step-done.new.self in
    let seat = c.args.seat.now in
    let busy = c.enter-world.ensures.view in
    let left = c.leave.ensures.view u (ap (λ (s : Known WorldView). s.view.taken) busy)
    ∙ ap (λ (s : Known WorldView). record s { view = gave_back ghosts u w s.view }) busy in
    subst (λ (s : Known WorldView). Stayed seat s c.args.number c.args.cmd) (sym left)
    (stays c.args.number c.args.cmd u w (kept u c.args.number c.args.cmd c.requires.keeps) seat.view
    c.requires.turn.idle c.requires.turn.room
    c.enter-world.ensures.entered seat.table c.in-Err.ensures)

pub returns-in-Ok : goal.returns-in-Ok
returns-in-Ok g c =
    let u = c.enter-world.result in
    let w = c.step-done.new.self in
    let seat = c.args.seat.now in
    let all = plain_leaves c.args.number c.args.cmd u w (kept u c.args.number c.args.cmd c.requires.keeps)
    seat.view c.requires.turn.idle
    c.requires.turn.room c.enter-world.ensures.entered c.in-Ok.entry c.in-Ok.ensures in
    turned seat c.enter-world.new.seat c.args.number c.args.cmd u w c.in-Ok.entry
    _ c.enter-world.ensures.view all c.leave.new.seat c.leave.ensures.view
