use Rattle.hd_gate.proofs.Basics.{IsOffer, Known, Option, Slot, Stepped, TableId, View, WorldView, ap, gathered, ghosts, kind_number, subst, sym, took, without_gathered, ◌<◌, ◌∙◌, ◌≡◌, ◌≤◌}
use Rattle.hd_gate.proofs.GateLeave.{may_step, Leaves, may_leave, turned}
use Rattle.hd_gate.proofs.BlockTrim.{may_offer, trim_leaves, may_withdraw}
use Rattle.hd_gate.proofs.turns.trim.Given.{Over}
use Rattle.hd_gate.proofs.turns.trim.Goals.{After-withdraw}
use Rattle.hd_gate.proofs.turns.trim.Goals as goal

pub step_surely-entry-requires-clause-step : goal.step_surely-entry-requires-clause-step
step_surely-entry-requires-clause-step g c =
    let v = c.gather-block.new.seat.view in
    let view = c.gather-block.ensures.done.view in
    let o = c.gather-block.result in
    may_step c.enter-world.result v c.args.number c.args.cmd c.first_slot-first.result
    c.enter-world.ensures.entered (subst (λ (x : View WorldView). 1 ≤ x.room) (sym view) c.requires.turn.room)
    (subst (λ (x : View WorldView). c.args.number < x.limits.callers) (sym view) c.requires.turn.idle.known)
    c.requires.turn.valid
    (subst (λ (p : Option Slot). IsOffer c.enter-world.result.state c.args.number c.args.cmd p)
    (sym c.first_slot-first.ensures)
    (may_offer c.enter-world.result v c.args.kind c.enter-world.ensures.entered c.args.number c.args.cmd
    c.requires.gives_back o (ap (λ (x : View WorldView). x.held) view
    ∙ ap (gathered (kind_number c.args.kind) o) c.requires.turn.idle.held)))

pub withdraw-requires-clause-all : goal.withdraw-requires-clause-all
withdraw-requires-clause-all g c =
    let k = kind_number c.args.kind in
    let o = c.gather-block.result in
    may_withdraw k o c.enter-world.new.seat.view.held
    (ap (λ (s : Known WorldView). s.view.held) c.enter-world.ensures.view
    ∙ ap (λ (x : View WorldView). x.held) c.gather-block.ensures.done.view
    ∙ ap (gathered k o) c.requires.turn.idle.held)

-- the seat under the gate, and what it may leave with
busy : (g : Over) (c : After-withdraw g) → c.withdraw.new.seat ≡ record {
  table = c.args.seat.now.table;
  view = without_gathered c.gather-block.result (took ghosts c.enter-world.result c.gather-block.new.seat.view);
}
busy g c = c.withdraw.ensures
    ∙ ap (λ (s : Known WorldView). record s { view = without_gathered c.gather-block.result s.view })
    c.enter-world.ensures.view
    ∙ ap (λ (t : TableId). record {
      table = t;
      view = without_gathered c.gather-block.result (took ghosts c.enter-world.result c.gather-block.new.seat.view);
    }) c.gather-block.ensures.table

all : (g : Over) (c : After-withdraw g) → Leaves c.args.number c.args.cmd c.enter-world.result
    c.step_surely-entry.new.world c.step_surely-entry.result c.args.seat.now.view
    (without_gathered c.gather-block.result (took ghosts c.enter-world.result c.gather-block.new.seat.view))
all g c =
    let u = c.enter-world.result in
    let w = c.step_surely-entry.new.world in
    let e = c.step_surely-entry.result in
    trim_leaves c.args.number c.args.cmd c.args.kind c.requires.gives_back u w c.args.seat.now.view
    c.gather-block.new.seat.view c.requires.turn.idle c.requires.turn.room c.gather-block.result
    c.args.custody.now.blocks c.requires.turn.blocks c.gather-block.ensures.done
    c.enter-world.ensures.entered e
    (subst (λ (p : Option Slot). Stepped u w c.args.number c.args.cmd p e) c.first_slot-first.ensures
    c.step_surely-entry.ensures)

pub leave-requires-clause-follows : goal.leave-requires-clause-follows
leave-requires-clause-follows g c =
    let at = (goal.at.leave-requires-clause-follows g c).After-withdraw in
    may_leave c.args.seat.now c.withdraw.new.seat c.args.number c.args.cmd c.enter-world.result
    c.step_surely-entry.new.world c.step_surely-entry.result _ (busy g at) (all g at)

pub returns : goal.returns
returns g c =
    let at = (goal.at.returns g c).After-withdraw in
    turned c.args.seat.now c.withdraw.new.seat c.args.number c.args.cmd c.enter-world.result
    c.step_surely-entry.new.world c.step_surely-entry.result _ (busy g at) (all g at) c.leave.new.seat
    c.leave.ensures.view
