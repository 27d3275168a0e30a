use Rattle.hd_gate.proofs.Basics.{BLOCKS, HasAs, IfSome, Kind, Known, None, Option, ReleasesFreed, Slot, TableId, Turned, WorldView, ap, freed_in, gave_back, ghosts, kind_number, refl, subst, sym, took, ◌+◌, ◌∙◌, ◌≡◌, ◌≤◌}
use Rattle.hd_gate.proofs.{HandleFree.Freed, HandleFree.frees_slot, GateLeave.may_step, GateLeave.may_leave_with}
use Rattle.hd_gate.proofs.turns.free.Given.{Over}
use Rattle.hd_gate.proofs.turns.free.Goals.{After-step_surely-entry, After-leave}
use Rattle.hd_gate.proofs.turns.free.Goals as goal

-- what its caller may leave the gate with, and what it is once it released what was freed
all : (g : Over) (c : After-step_surely-entry g) → Freed c.args.number c.args.cmd c.requires.frees
    c.enter-world.result c.step_surely-entry.new.world c.args.seat.now.view c.requires.turn.idle
    c.requires.turn.room (subst (λ b. b ≤ BLOCKS) c.requires.turn.blocks c.requires.turn.few)
    c.enter-world.ensures.entered c.step_surely-entry.result c.step_surely-entry.ensures
    (freed_in c.step_surely-entry.new.world.state c.step_surely-entry.result.slot)
all g c =
    frees_slot c.args.number c.args.cmd c.requires.frees c.enter-world.result c.step_surely-entry.new.world
    c.args.seat.now.view c.requires.turn.idle c.requires.turn.room
    (subst (λ b. b ≤ BLOCKS) c.requires.turn.blocks c.requires.turn.few) c.enter-world.ensures.entered
    c.step_surely-entry.result c.step_surely-entry.ensures

left : (g : Over) (c : After-leave g) → c.leave.new.seat ≡ record {
  table = c.args.seat.now.table;
  view = gave_back ghosts c.enter-world.result c.step_surely-entry.new.world
      (took ghosts c.enter-world.result c.args.seat.now.view);
}
left g c =
    let busy = c.enter-world.ensures.view in
    c.leave.ensures.view c.enter-world.result (ap (λ (s : Known WorldView). s.view.taken) busy)
    ∙ ap (λ (s : Known WorldView). record s {
      view = gave_back ghosts c.enter-world.result c.step_surely-entry.new.world s.view;
    }) busy

pub step_surely-entry-requires-clause-step : goal.step_surely-entry-requires-clause-step
step_surely-entry-requires-clause-step g c =
    may_step c.enter-world.result c.args.seat.now.view c.args.number c.args.cmd None
    c.enter-world.ensures.entered c.requires.turn.room c.requires.turn.idle.known c.requires.turn.valid tt

pub leave-requires-clause-follows : goal.leave-requires-clause-follows
leave-requires-clause-follows g c =
    let u = c.enter-world.result in
    may_leave_with c.args.seat.now.table c.enter-world.new.seat u c.step_surely-entry.new.world
    (took ghosts u c.args.seat.now.view) c.enter-world.ensures.view refl
    (all g (goal.at.leave-requires-clause-follows g c).After-step_surely-entry).follows

pub release_freed-requires-clause-slot : goal.release_freed-requires-clause-slot
release_freed-requires-clause-slot g c =
    let at = goal.at.release_freed-requires-clause-slot g c in
    rw c.freed-freed.ensures
    (subst (λ (s : Known WorldView). IfSome
    (freed_in c.step_surely-entry.new.world.state c.step_surely-entry.result.slot)
    (λ f. HasAs (f.0.0, kind_number f.1 + 1) s.view.held)) (sym (left g at.After-leave))
    (all g at.After-step_surely-entry).has)

pub returns : goal.returns
returns g c =
    let at = goal.at.returns g c in
    let e = c.step_surely-entry.result in
    let w = c.step_surely-entry.new.world in
    let seat = c.args.seat.now in
    let n = c.release_freed.new.seat.view in
    let left = left g at.After-leave in
    let away : ReleasesFreed seat.view.limits.blocks (freed_in w.state e.slot)
    (gave_back ghosts c.enter-world.result w (took ghosts c.enter-world.result seat.view)) n =
    subst (λ (s : Known WorldView).
    ReleasesFreed seat.view.limits.blocks (freed_in w.state e.slot) s.view n) left
    (subst (λ b. ReleasesFreed b (freed_in w.state e.slot) c.leave.new.seat.view n) c.requires.turn.blocks
    (subst (λ (f : Option (Slot × Kind)). ReleasesFreed c.args.custody.now.blocks f c.leave.new.seat.view n)
    c.freed-freed.ensures c.release_freed.ensures.gone)) in
    subst (λ (t : TableId). Turned seat (record { table = t; view = n }) c.args.number c.args.cmd e.reply)
    (sym (c.release_freed.ensures.table ∙ ap (λ (s : Known WorldView). s.table) left))
    ((all g at.After-step_surely-entry).turned seat.table n away)
