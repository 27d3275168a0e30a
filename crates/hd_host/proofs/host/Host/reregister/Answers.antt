use Rattle.hd_model.specs.declared.data.Reply.TheVariants as reply
use Rattle.hd_host.proofs.GrownCalls.{called_numbers, callers_by, host_on, refl, tried}
use Rattle.hd_host.proofs.host.Host.reregister.Goals as goal

pub invariant_of-self : goal.invariant_of-self
invariant_of-self c =
    host_on c.self.invariant c.self.view_is c.requires.context refl refl c.reregister-came.ensures

pub returns-clause-does : goal.returns-clause-does
returns-clause-does c =
    tried c.self.invariant c.self.view_is c.requires.context refl refl (λ _. reply.Done) c.reregister-came.result c.reregister-came.ensures
    (λ _. refl) (λ _. refl) _ _ c.settle.ensures

pub returns-clause-contexts : goal.returns-clause-contexts
returns-clause-contexts c =
    callers_by c.self.invariant c.self.view_is (called_numbers c.reregister-came.ensures)
