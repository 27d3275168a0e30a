use Rattle.hd_store.proofs.StoreWords.{Err, IsOffer, Machine, Ok, OnErr, Result, TakesStepsIn, done_of, entry_by, subst, sym, true, ◌<◌, ◌∙◌, ◌≡◌, ◌⊎◌}
use Rattle.hd_model.specs.Valid.{takes_memory}
use Rattle.hd_store.specs.Offers.{TakesTable}
use Rattle.hd_store.specs.Calls.{HasCalled, IsSound, StaysWithin}
use Rattle.hd_store.proofs.{SoundCalls.may-run, SoundCalls.sound-after, ValueCalls.kept-called}
use Rattle.hd_store.proofs.store.Store.apply.Goals as goal

pub carry_out-requires : goal.carry_out-requires
carry_out-requires g c =
    may-run c.self.inside.contents c.args.caller c.args.cmd c.args.offer c.self.invariant
    (subst (λ (m : Machine). c.args.caller < m.numbers.callers) (sym c.self.view_is) c.requires.caller)
    c.requires.valid
    (subst (λ (m : Machine). IsOffer m.state c.args.caller c.args.cmd c.args.offer) (sym c.self.view_is)
    c.requires.offer)
    (subst (λ (m : Machine). StaysWithin m.state c.args.caller c.args.cmd) (sym c.self.view_is)
    c.requires.within)

-- the store as it was, where memory ran out
pub invariant_of-self : goal.invariant_of-self
invariant_of-self g c = subst IsSound (sym c.in_err-came.ensures.0.unchanged) c.self.invariant

on_err : {A B : Type 0} (r : Result A B) (P : Type 0) → P → OnErr r P
on_err (Ok a) P x = tt
on_err (Err b) P x = x

pub returns-in_err-came-clause-unchanged : goal.returns-in_err-came-clause-unchanged
returns-in_err-came-clause-unchanged g c =
    on_err c.from_residual.result (c.carry_out.new.store ≡ c.args.self.now)
    (c.in_err-came.ensures.0.unchanged ∙ c.self.view_is)

pub returns-in_err-came-clause-memory : goal.returns-in_err-came-clause-memory
returns-in_err-came-clause-memory g c =
    on_err c.from_residual.result ((takes_memory c.args.cmd ≡ true) ⊎ TakesTable c.args.self.now.numbers
    c.args.self.now.state c.args.caller c.args.cmd c.args.offer)
    (subst (λ (m : Machine). (takes_memory c.args.cmd ≡ true) ⊎ TakesTable m.numbers m.state c.args.caller
    c.args.cmd c.args.offer) c.self.view_is c.in_err-came.ensures.0.memory)

pub invariant_of-self-2 : goal.invariant_of-self-2
invariant_of-self-2 g c =
    sound-after c.self.inside.contents c.carry_out.new.store
    (entry_by c.args.caller c.args.cmd (done_of c.in_ok-came.came)) c.self.invariant
    c.in_ok-came.ensures.0.effect

pub returns-clause-done : goal.returns-clause-done
returns-clause-done g c =
    let k = c.carry_out.new.store in
    subst (λ (v : Machine). HasCalled v c.args.caller c.args.cmd c.args.offer k c.entry_of.result)
    c.self.view_is
    (subst (HasCalled c.self.inside.contents c.args.caller c.args.cmd c.args.offer k) (sym c.entry_of.ensures)
    (kept-called c.objects-before.ensures.heap c.objects-after.ensures.heap c.in_ok-came.ensures.0))

pub returns-clause-steps : goal.returns-clause-steps
returns-clause-steps g c =
    subst (λ (m : Machine). TakesStepsIn m.numbers m.state m.ages c.entry_of.result c.args.steps.now
    c.carry_out.new.steps)
    c.self.view_is
    (subst (λ e. TakesStepsIn c.self.inside.contents.numbers c.self.inside.contents.state
    c.self.inside.contents.ages e c.args.steps.now
    c.carry_out.new.steps) (sym c.entry_of.ensures) c.in_ok-came.ensures.1)
