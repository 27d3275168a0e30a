use Rattle.hd_store.proofs.StoreWords.{Machine, Some, ap, handle_at, option_map, sym, ◌∙◌}
use Rattle.hd_model.specs.Handles.{handle_of}
use Rattle.hd_store.proofs.SoundCalls.{has-handles}
use Rattle.hd_store.proofs.store.Store.handle.Goals as goal

pub handle-requires : goal.handle-requires
handle-requires c = has-handles c.self.inside.contents c.self.invariant

pub returns-in_err-handle : goal.returns-in_err-handle
returns-in_err-handle c =
    sym (ap (λ (m : Machine). handle_at m.state c.args.slot) c.self.view_is) ∙ c.in_err-handle.ensures.value
    ∙ sym (ap (option_map handle_of) c.from_residual.ensures)

pub info-requires-clause-target : goal.info-requires-clause-target
info-requires-clause-target c = c.in_ok-handle.ensures.may.target

pub info-requires-clause-secondary : goal.info-requires-clause-secondary
info-requires-clause-secondary c = c.in_ok-handle.ensures.may.secondary

pub returns : goal.returns
returns c =
    sym (ap (λ (m : Machine). handle_at m.state c.args.slot) c.self.view_is) ∙ c.in_ok-handle.ensures.value
    ∙ sym (ap Some c.info.ensures)
