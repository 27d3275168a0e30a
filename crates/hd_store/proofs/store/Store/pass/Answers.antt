use Rattle.hd_store.proofs.StoreWords.{IsNamed, Machine, ap, named_in, register_of, subst, sym, with_register, ◌∙◌}
use Rattle.hd_store.specs.Calls.{IsSound}
use Rattle.hd_store.proofs.{HostedCalls.sound-register, ValueCalls.known-in}
use Rattle.hd_store.proofs.store.Store.pass.Goals as goal

pub register-target-requires : goal.register-target-requires
register-target-requires c = (known-in c.self.view_is c.requires.callers.1, c.requires.registers.1)

pub set_register-requires-clause-caller : goal.set_register-requires-clause-caller
set_register-requires-clause-caller c = known-in c.self.view_is c.requires.callers.0

pub invariant_of-self : goal.invariant_of-self
invariant_of-self c =
    let m = c.self.inside.contents in
    subst IsSound (sym (c.set_register.ensures
    ∙ ap (λ t. record m { state = with_register m.state c.args.to c.args.d t }) c.register-target.ensures.value))
    (sound-register m c.args.to c.args.d (register_of m.state c.args.from c.args.s) c.self.invariant
    (known-in c.self.view_is c.requires.callers.0)
    (c.self.invariant.well_formed.names.registers c.args.from c.args.s))

pub named-requires : goal.named-requires
named-requires c = subst (λ (m : Machine). IsNamed m.names c.register-target.result) (sym c.set_register.ensures)
    c.register-target.ensures.named

pub returns-clause-value : goal.returns-clause-value
returns-clause-value c =
    c.named.ensures ∙ ap (λ (m : Machine). named_in m.names c.register-target.result) c.set_register.ensures
    ∙ c.register-target.ensures.value
    ∙ ap (λ (m : Machine). register_of m.state c.args.from c.args.s) c.self.view_is

pub returns-clause-passed : goal.returns-clause-passed
returns-clause-passed c =
    let m = c.self.inside.contents in
    c.set_register.ensures
    ∙ ap (λ t. record m { state = with_register m.state c.args.to c.args.d t }) c.register-target.ensures.value
    ∙ ap (λ (x : Machine). record x {
      state = with_register x.state c.args.to c.args.d (register_of x.state c.args.from c.args.s);
    }) c.self.view_is
