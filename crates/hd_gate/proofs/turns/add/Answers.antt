use Rattle.hd_gate.proofs.Basics.{Dependent, GrowsByBlocks, Known, MayGrant, WorldView, Zero, ap, extra_block, ghosts, handle_block, kind_number, true, with_grown, ◌∙◌, ◌≡◌, ◌≢◌}
use Rattle.hd_gate.proofs.GateLeave.{may_step, Leaves, may_leave, turned}
use Rattle.hd_gate.proofs.GateSearch.{adds_offer, added}
use Rattle.hd_gate.proofs.turns.add.Given.{Over}
use Rattle.hd_gate.proofs.turns.add.Goals.{After-step_surely-entry, After-grant_blocks}
use Rattle.hd_gate.proofs.turns.add.Goals as goal

pub step_surely-entry-requires-clause-step : goal.step_surely-entry-requires-clause-step
step_surely-entry-requires-clause-step g c =
    let v = c.args.seat.now.view in
    may_step c.enter-world.result v c.args.number c.args.cmd c.look-offer.result c.enter-world.ensures.entered
    c.requires.turn.room c.requires.turn.idle.known c.requires.turn.valid
    (adds_offer c.args.number c.args.cmd c.requires.adds c.enter-world.result c.needs_slot-needs.result
    c.needs_slot-needs.ensures v c.look-offer.new.seat.view c.requires.turn.idle c.requires.turn.room
    c.look-offer.result c.args.custody.now.blocks c.requires.turn.blocks c.enter-world.ensures.entered
    c.args.seat.now.table c.enter-world.new.seat c.enter-world.ensures.view c.look-offer.ensures.looked)

-- what the table grew by may be granted, and the gate then left
goes : (g : Over) (c : After-step_surely-entry g) → Leaves c.args.number c.args.cmd c.enter-world.result
    c.step_surely-entry.new.world c.step_surely-entry.result c.args.seat.now.view
    (with_grown (kind_number Dependent) c.step_surely-entry.result.grown c.look-offer.new.seat.view)
    × (c.step_surely-entry.result.grown ≢ Zero → GrowsByBlocks true c.step_surely-entry.result.grown
    × MayGrant ghosts c.args.custody.now.blocks (handle_block c.step_surely-entry.result.grown)
    (extra_block c.step_surely-entry.result.grown) c.look-offer.new.seat.view)
goes g c =
    added c.args.number c.args.cmd c.requires.adds c.enter-world.result c.needs_slot-needs.result
    c.needs_slot-needs.ensures c.args.seat.now.view c.look-offer.new.seat.view c.requires.turn.idle
    c.requires.turn.room c.look-offer.result c.args.custody.now.blocks c.requires.turn.blocks
    c.enter-world.ensures.entered c.args.seat.now.table c.enter-world.new.seat c.enter-world.ensures.view
    c.look-offer.ensures.looked c.step_surely-entry.new.world c.step_surely-entry.result
    c.step_surely-entry.ensures

pub grant_blocks-requires-clause-grows : goal.grant_blocks-requires-clause-grows
grant_blocks-requires-clause-grows g c apart =
    ((goes g (goal.at.grant_blocks-requires-clause-grows g c).After-step_surely-entry).1 apart).0

pub grant_blocks-requires-clause-blocks : goal.grant_blocks-requires-clause-blocks
grant_blocks-requires-clause-blocks g c apart =
    ((goes g (goal.at.grant_blocks-requires-clause-blocks g c).After-step_surely-entry).1 apart).1

-- the seat under the gate, and what it may leave with
busy : (g : Over) (c : After-grant_blocks g) → c.grant_blocks.new.seat ≡ record {
  table = c.args.seat.now.table;
  view = with_grown (kind_number Dependent) c.step_surely-entry.result.grown c.look-offer.new.seat.view;
}
busy g c =
    c.grant_blocks.ensures
    ∙ ap (λ t. record {
      table = t;
      view = with_grown (kind_number Dependent) c.step_surely-entry.result.grown c.look-offer.new.seat.view;
    }) (c.look-offer.ensures.table ∙ ap (λ (s : Known WorldView). s.table) c.enter-world.ensures.view)

pub leave-requires-clause-follows : goal.leave-requires-clause-follows
leave-requires-clause-follows g c =
    let at = goal.at.leave-requires-clause-follows g c in
    may_leave c.args.seat.now c.grant_blocks.new.seat c.args.number c.args.cmd c.enter-world.result
    c.step_surely-entry.new.world c.step_surely-entry.result _ (busy g at.After-grant_blocks)
    (goes g at.After-step_surely-entry).0

pub returns : goal.returns
returns g c =
    let at = goal.at.returns g c in
    turned c.args.seat.now c.grant_blocks.new.seat c.args.number c.args.cmd c.enter-world.result
    c.step_surely-entry.new.world c.step_surely-entry.result _ (busy g at.After-grant_blocks)
    (goes g at.After-step_surely-entry).0 c.leave.new.seat c.leave.ensures.view
