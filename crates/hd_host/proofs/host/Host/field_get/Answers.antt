use Rattle.hd_model.specs.Command.{load_reply}
use Rattle.hd_host.proofs.{Refused.not_refused, ReplyForms.loads}
use Rattle.hd_host.proofs.GrownCalls.{called_numbers, callers_by, host_on, refl, tried}
use Rattle.hd_host.proofs.host.Host.field_get.Goals as goal

pub invariant_of-self : goal.invariant_of-self
invariant_of-self c =
    host_on c.self.invariant c.self.view_is c.requires.context refl refl c.get_field-came.ensures

pub returns-clause-does : goal.returns-clause-does
returns-clause-does c =
    tried c.self.invariant c.self.view_is c.requires.context refl refl load_reply c.get_field-came.result c.get_field-came.ensures
    not_refused loads _ _ c.settle.ensures

pub returns-clause-contexts : goal.returns-clause-contexts
returns-clause-contexts c =
    callers_by c.self.invariant c.self.view_is (called_numbers c.get_field-came.ensures)
