use Rattle.hd_gate.proofs.Basics.{FindsFullExactly, HasCalled, MayNote, Offers, TrimsExactly, WorldView, ap, change_in, noted, subst, sym, ◌<◌, ◌∙◌, ◌≤◌}
use Rattle.hd_slots.proofs.PoolStep.{may_offer}
use Rattle.hd_gate.proofs.PoolCall.{may_note, tied_after, has_called, full_exactly, trims_exactly}
use Rattle.hd_gate.proofs.alone.Alone.call.Goals.{After-offer-offered}
use Rattle.hd_gate.proofs.alone.Alone.call.Goals as goal

-- what is offered by the command and the state
offers : (c : After-offer-offered) → Offers c.self.inside.pool c.offer-offered.new.pool
    (change_in c.self.inside.world.state c.args.caller c.args.cmd) c.offer-offered.result
offers c =
    subst (λ x. Offers c.self.inside.pool c.offer-offered.new.pool x c.offer-offered.result)
    c.change_in-change.ensures c.offer-offered.ensures

pub apply_uncounted-requires : goal.apply_uncounted-requires
apply_uncounted-requires c = record {
  room = subst (λ (w : WorldView). 1 ≤ w.spare) (sym c.self.view_is) c.requires.room;
  caller =
      subst (λ (w : WorldView). c.args.caller < w.numbers.callers) (sym c.self.view_is) c.requires.caller;
  valid = c.requires.valid;
  offer = may_offer c.self.inside.world.numbers c.self.inside.world.state c.self.inside.pool
      c.offer-offered.new.pool c.self.invariant c.args.caller c.args.cmd c.offer-offered.result
      (offers (goal.at.apply_uncounted-requires c).After-offer-offered);
}

pub note-requires : goal.note-requires
note-requires c =
    subst (λ x. MayNote c.offer-offered.new.pool x c.in_ok-entry.entry.slot c.in_ok-entry.entry.grown)
    (sym c.change_in-change.ensures) (may_note c.self.invariant c.offer-offered.new.pool
    (offers (goal.at.note-requires c).After-offer-offered) c.in_ok-entry.ensures)

pub invariant_of-self-2 : goal.invariant_of-self-2
invariant_of-self-2 c =
    let e = c.in_ok-entry.entry in
    tied_after c.self.invariant c.offer-offered.new.pool
    (offers (goal.at.invariant_of-self-2 c).After-offer-offered) c.in_ok-entry.ensures c.note.new.pool
    (c.note.ensures
    ∙ ap (λ x. noted c.offer-offered.new.pool x e.slot e.grown) c.change_in-change.ensures)

pub returns-clause-done : goal.returns-clause-done
returns-clause-done c =
    subst (λ (w : WorldView). HasCalled w c.apply_uncounted.new.self c.args.caller c.args.cmd c.in_ok-entry.entry.reply)
    c.self.view_is
    (has_called c.self.invariant c.offer-offered.new.pool
    (offers (goal.at.returns-clause-done c).After-offer-offered) c.in_ok-entry.ensures)

pub returns-clause-full : goal.returns-clause-full
returns-clause-full c =
    subst (λ (w : WorldView). FindsFullExactly w c.args.caller c.args.cmd c.in_ok-entry.entry.reply)
    c.self.view_is
    (full_exactly c.self.invariant c.offer-offered.new.pool
    (offers (goal.at.returns-clause-full c).After-offer-offered) c.in_ok-entry.ensures)

pub returns-clause-trims : goal.returns-clause-trims
returns-clause-trims c =
    subst (λ (w : WorldView). TrimsExactly w c.args.cmd c.in_ok-entry.entry.reply) c.self.view_is
    (trims_exactly c.self.invariant c.offer-offered.new.pool
    (offers (goal.at.returns-clause-trims c).After-offer-offered) c.in_ok-entry.ensures)
