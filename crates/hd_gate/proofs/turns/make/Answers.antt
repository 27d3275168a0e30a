use Rattle.hd_gate.proofs.Basics.{GrowsByBlocks, Known, MayGrant, TableId, Takes, View, WorldView, Zero, ap, extra_block, false, ghosts, handle_block, is_paired, kind_number, looks_with_gate, offered, slot_number, subst, sym, took, with_grown, ◌<◌, ◌∙◌, ◌≡◌, ◌≢◌, ◌≤◌}
use Rattle.hd_slots.proofs.StepLiveSlots.{in_state, asks_for}
use Rattle.hd_gate.proofs.HandleMake.{may_offer, looked_without, made}
use Rattle.hd_gate.proofs.GateLeave.{may_step, Leaves, may_leave, turned}
use Rattle.hd_gate.proofs.turns.make.Given.{Over}
use Rattle.hd_gate.proofs.turns.make.Goals.{After-step_surely-entry, After-grant_blocks}
use Rattle.hd_gate.proofs.turns.make.Goals as goal

pub step_surely-entry-requires-clause-step : goal.step_surely-entry-requires-clause-step
step_surely-entry-requires-clause-step g c =
    let v = c.look_before-offer.new.seat.view in
    let view = c.look_before-offer.ensures.looked.done.view in
    may_step c.enter-found.result v c.args.number c.args.cmd c.look_before-offer.result
    c.enter-found.ensures.entered (subst (λ (x : View WorldView). 1 ≤ x.room) (sym view) c.requires.turn.room)
    (subst (λ (x : View WorldView). c.args.number < x.limits.callers) (sym view) c.requires.turn.idle.known)
    c.requires.turn.valid
    (may_offer c.enter-found.result v c.args.kind c.enter-found.ensures.entered c.args.number c.args.cmd
    (asks_for c.enter-found.result.state c.args.number c.args.cmd c.args.kind
    (in_state c.enter-found.result.state c.args.number c.args.cmd (Takes c.args.kind) (λ e. cc)
    c.requires.takes))
    c.look_before-offer.result
    (ap (λ (x : View WorldView). x.held) view
    ∙ ap (offered (kind_number c.args.kind) (slot_number c.look_before-offer.result)) c.requires.turn.idle.held))

-- what the table grew by may be granted, and the gate then left
goes : (g : Over) (c : After-step_surely-entry g) → Leaves c.args.number c.args.cmd c.enter-found.result
    c.step_surely-entry.new.world c.step_surely-entry.result c.args.seat.now.view
    (with_grown (kind_number c.args.kind) c.step_surely-entry.result.grown
    (took ghosts c.enter-found.result c.look_before-offer.new.seat.view))
    × (c.step_surely-entry.result.grown ≢ Zero
    → GrowsByBlocks (is_paired c.args.kind) c.step_surely-entry.result.grown
    × MayGrant ghosts c.args.custody.now.blocks (handle_block c.step_surely-entry.result.grown)
    (extra_block c.step_surely-entry.result.grown) (took ghosts c.enter-found.result c.look_before-offer.new.seat.view))
goes g c =
    made c.args.number c.args.cmd c.args.kind c.enter-found.result c.step_surely-entry.new.world
    (in_state c.enter-found.result.state c.args.number c.args.cmd (Takes c.args.kind) (λ e. cc)
    c.requires.takes)
    c.args.seat.now.view c.look_before-offer.new.seat.view c.requires.turn.idle
    c.requires.turn.room c.look_before-offer.result c.args.custody.now.blocks c.requires.turn.blocks
    false (sym (ap looks_with_gate c.requires.takes))
    (looked_without _ _ c.args.seat.now.view c.look_before-offer.new.seat.view c.args.number c.requires.turn.idle
    c.look_before-offer.ensures.looked.done.view)
    c.look_before-offer.ensures.looked.none c.enter-found.ensures.entered
    c.step_surely-entry.result c.step_surely-entry.ensures

pub grant_blocks-requires-clause-grows : goal.grant_blocks-requires-clause-grows
grant_blocks-requires-clause-grows g c apart =
    ((goes g (goal.at.grant_blocks-requires-clause-grows g c).After-step_surely-entry).1 apart).0

pub grant_blocks-requires-clause-blocks : goal.grant_blocks-requires-clause-blocks
grant_blocks-requires-clause-blocks g c apart =
    let e = c.step_surely-entry.result in
    subst (λ (x : View WorldView). MayGrant ghosts c.args.custody.now.blocks (handle_block e.grown)
    (extra_block e.grown) x) (sym (ap (λ (s : Known WorldView). s.view) c.enter-found.ensures.view))
    ((goes g (goal.at.grant_blocks-requires-clause-blocks g c).After-step_surely-entry).1 apart).1

-- the seat under the gate, and what it may leave with
busy : (g : Over) (c : After-grant_blocks g) → c.grant_blocks.new.seat ≡ record {
  table = c.args.seat.now.table;
  view = with_grown (kind_number c.args.kind) c.step_surely-entry.result.grown
      (took ghosts c.enter-found.result c.look_before-offer.new.seat.view);
}
busy g c =
    let k = kind_number c.args.kind in
    let grown = c.step_surely-entry.result.grown in
    c.grant_blocks.ensures
    ∙ ap (λ (s : Known WorldView). record s { view = with_grown k grown s.view }) c.enter-found.ensures.view
    ∙ ap (λ (t : TableId). record {
      table = t;
      view = with_grown k grown (took ghosts c.enter-found.result c.look_before-offer.new.seat.view);
    }) c.look_before-offer.ensures.table

pub leave-requires-clause-follows : goal.leave-requires-clause-follows
leave-requires-clause-follows g c =
    let at = goal.at.leave-requires-clause-follows g c in
    may_leave c.args.seat.now c.grant_blocks.new.seat c.args.number c.args.cmd c.enter-found.result
    c.step_surely-entry.new.world c.step_surely-entry.result _ (busy g at.After-grant_blocks)
    (goes g at.After-step_surely-entry).0

pub returns : goal.returns
returns g c =
    let at = goal.at.returns g c in
    turned c.args.seat.now c.grant_blocks.new.seat c.args.number c.args.cmd c.enter-found.result
    c.step_surely-entry.new.world c.step_surely-entry.result _ (busy g at.After-grant_blocks)
    (goes g at.After-step_surely-entry).0 c.leave.new.seat c.leave.ensures.view
