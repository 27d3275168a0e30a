use Rattle.std.proofs.lemmas.Result.{MatchResult-weaker}
use Rattle.hd_store.proofs.StoreWords.{Machine, refl, subst, sym, ◌∙◌}
use Rattle.hd_model.specs.declared.command.Cmd.TheVariants as cmd
use Rattle.hd_store.specs.Offers.{TakesTable}
use Rattle.hd_store.proofs.{SoundCalls.has-handles, SoundCalls.has-weak, ValueCalls.came-sound, ValueCalls.endless, ValueCalls.run-called, ValueCalls.run-sound}
use Rattle.hd_store.specs.Calls.{IsSound}
use Rattle.hd_store.proofs.store.Store.add_entry_on.Goals as goal

pub add_entry-came-requires-clause-handles : goal.add_entry-came-requires-clause-handles
add_entry-came-requires-clause-handles g c = has-handles c.self.inside.contents c.self.invariant

pub add_entry-came-requires-clause-weak : goal.add_entry-came-requires-clause-weak
add_entry-came-requires-clause-weak g c = has-weak c.self.invariant

pub invariant_of-self : goal.invariant_of-self
invariant_of-self g c =
    came-sound c.add_entry-came.result c.add_entry-came.ensures
    (λ came done. run-sound (cmd.CAdd c.args.k c.args.v) c.self.invariant c.self.view_is c.requires.caller
    c.requires.registers c.requires.offer (endless refl) c.objects-before.ensures.heap
    c.objects-after.ensures.heap done.0)
    (λ out. subst IsSound (sym out.1) c.self.invariant)

pub returns : goal.returns
returns g c =
    MatchResult-weaker c.add_entry-came.result c.add_entry-came.ensures
    (λ came done. run-called (cmd.CAdd c.args.k c.args.v) c.self.invariant c.self.view_is c.requires.caller
    c.requires.registers c.requires.offer (endless refl) c.objects-before.ensures.heap
    c.objects-after.ensures.heap done.0)
    (λ _ out. (
      subst (λ (m : Machine). TakesTable m.numbers m.state c.args.caller (cmd.CAdd c.args.k c.args.v)
          c.args.offer) c.self.view_is out.0,
      out.1 ∙ c.self.view_is,
    ))
