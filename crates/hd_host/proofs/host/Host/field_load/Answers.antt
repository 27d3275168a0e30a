use Rattle.hd_model.specs.Command.{load_reply}
use Rattle.hd_store.specs.declared.hosted.Loaded.{Loaded}
use Rattle.hd_host.proofs.{CallHost.known_in, Refused.not_refused, ReplyForms.loads}
use Rattle.hd_host.proofs.GrownCalls.{called_numbers, callers_by, host_on, refl, tried}
use Rattle.hd_host.proofs.{GrownWide.reads_settled, WideCalls.known_on}
use Rattle.hd_host.proofs.host.Host.field_load.Goals as goal

pub invariant_of-self : goal.invariant_of-self
invariant_of-self c =
    host_on c.self.invariant c.self.view_is c.requires.context refl refl c.load_field-came.ensures.got

pub returns-clause-does : goal.returns-clause-does
returns-clause-does c =
    tried c.self.invariant c.self.view_is c.requires.context refl refl (λ (l : Loaded). load_reply l.id)
    c.load_field-came.result c.load_field-came.ensures.got
    (λ l. not_refused l.id) (λ l. loads l.id) _ _ c.settle.ensures

pub returns-clause-reads : goal.returns-clause-reads
returns-clause-reads c =
    reads_settled
    (host_on c.self.invariant c.self.view_is c.requires.context refl refl c.load_field-came.ensures.got)
    (known_on (called_numbers c.load_field-came.ensures.got) (known_in c.self.view_is c.requires.context))
    c.args.dst c.self.inside.last c.load_field-came.result c.settle.new.last c.settle.result c.settle.ensures
    c.load_field-came.ensures.reads

pub returns-clause-contexts : goal.returns-clause-contexts
returns-clause-contexts c =
    callers_by c.self.invariant c.self.view_is (called_numbers c.load_field-came.ensures.got)
