use Rattle.hd_model.specs.Command.{load_reply}
use Rattle.hd_host.proofs.{Refused.not_refused, ReplyForms.loads}
use Rattle.hd_host.proofs.GrownCalls.{called_numbers, callers_by, host_on, refl, replied_on}
use Rattle.hd_host.proofs.host.Host.static_get.Goals as goal

pub invariant_of-self : goal.invariant_of-self
invariant_of-self c =
    host_on c.self.invariant c.self.view_is c.requires.context refl refl c.get_static-target.ensures

pub returns-clause-does : goal.returns-clause-does
returns-clause-does c =
    replied_on c.self.invariant c.self.view_is c.requires.context refl refl (load_reply c.get_static-target.result) c.get_static-target.ensures (not_refused c.get_static-target.result) (loads c.get_static-target.result)
    c.clear.ensures

pub returns-clause-contexts : goal.returns-clause-contexts
returns-clause-contexts c =
    callers_by c.self.invariant c.self.view_is (called_numbers c.get_static-target.ensures)
