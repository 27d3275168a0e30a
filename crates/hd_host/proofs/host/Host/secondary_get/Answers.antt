use Rattle.hd_model.specs.Command.{load_reply}
use Rattle.hd_host.proofs.{Refused.not_refused, ReplyForms.loads}
use Rattle.hd_host.proofs.GrownCalls.{called_numbers, callers_by, host_of, refl, tried_of}
use Rattle.hd_host.proofs.host.Host.secondary_get.Goals as goal

pub invariant_of-self : goal.invariant_of-self
invariant_of-self c =
    host_of c.self.invariant c.self.view_is c.requires.context
    c.in-Some.ensures refl refl refl c.get_secondary-came.new.self c.get_secondary-came.ensures

pub returns-clause-does : goal.returns-clause-does
returns-clause-does c =
    tried_of c.self.invariant c.self.view_is c.requires.context
    c.in-Some.ensures refl refl refl c.get_secondary-came.new.self load_reply
    c.get_secondary-came.result c.get_secondary-came.ensures not_refused loads _ _ c.settle.ensures

pub returns-clause-contexts : goal.returns-clause-contexts
returns-clause-contexts c =
    callers_by c.self.invariant c.self.view_is (called_numbers c.get_secondary-came.ensures.0)
