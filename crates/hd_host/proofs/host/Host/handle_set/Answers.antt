use Rattle.hd_model.specs.declared.data.Reply.TheVariants as reply
use Rattle.hd_host.proofs.GrownCalls.{called_numbers, callers_by, host_of, refl, tried_of}
use Rattle.hd_host.proofs.host.Host.handle_set.Goals as goal

pub invariant_of-self : goal.invariant_of-self
invariant_of-self c =
    host_of c.self.invariant c.self.view_is c.requires.context
    c.in-Some.ensures refl refl refl c.set_target-came.new.self c.set_target-came.ensures

pub returns-clause-does : goal.returns-clause-does
returns-clause-does c =
    tried_of c.self.invariant c.self.view_is c.requires.context
    c.in-Some.ensures refl refl refl c.set_target-came.new.self (λ _. reply.Done)
    c.set_target-came.result c.set_target-came.ensures (λ _. refl) (λ _. refl) _ _ c.settle.ensures

pub returns-clause-contexts : goal.returns-clause-contexts
returns-clause-contexts c =
    callers_by c.self.invariant c.self.view_is (called_numbers c.set_target-came.ensures.0)
