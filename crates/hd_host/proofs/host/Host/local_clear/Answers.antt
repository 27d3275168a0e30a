use Rattle.hd_model.specs.declared.data.Reply.TheVariants as reply
use Rattle.hd_host.proofs.GrownCalls.{called_numbers, callers_by, host_on, refl, replied_on}
use Rattle.hd_host.proofs.host.Host.local_clear.Goals as goal

pub invariant_of-self : goal.invariant_of-self
invariant_of-self c =
    host_on c.self.invariant c.self.view_is c.requires.context refl refl c.clear_register.ensures

pub returns-clause-does : goal.returns-clause-does
returns-clause-does c =
    replied_on c.self.invariant c.self.view_is c.requires.context refl refl reply.Done c.clear_register.ensures refl refl c.clear.ensures

pub returns-clause-contexts : goal.returns-clause-contexts
returns-clause-contexts c =
    callers_by c.self.invariant c.self.view_is (called_numbers c.clear_register.ensures)
