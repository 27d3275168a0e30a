use Rattle.hd_model.specs.Command.{load_reply}
use Rattle.hd_host.proofs.{CallHost.known_in, Refused.not_refused, ReplyForms.loads}
use Rattle.hd_host.proofs.GrownCalls.{called_numbers, callers_by, host_of, refl, replied_of}
use Rattle.hd_host.proofs.{GrownWide.reads_by, WideCalls.known_on}
use Rattle.hd_host.proofs.host.Host.handle_load.Goals as goal

pub invariant_of-self : goal.invariant_of-self
invariant_of-self c =
    host_of c.self.invariant c.self.view_is c.requires.context
    c.in-Some.ensures refl refl refl c.load_handle-loaded.new.self c.load_handle-loaded.ensures.got

pub returns-clause-does : goal.returns-clause-does
returns-clause-does c =
    replied_of c.self.invariant c.self.view_is c.requires.context
    c.in-Some.ensures refl refl refl c.load_handle-loaded.new.self (load_reply c.load_handle-loaded.result.id)
    c.load_handle-loaded.ensures.got (not_refused c.load_handle-loaded.result.id)
    (loads c.load_handle-loaded.result.id) c.clear.ensures

pub returns-clause-reads : goal.returns-clause-reads
returns-clause-reads c =
    reads_by
    (host_of c.self.invariant c.self.view_is c.requires.context
    c.in-Some.ensures refl refl refl c.load_handle-loaded.new.self c.load_handle-loaded.ensures.got)
    (known_on (called_numbers c.load_handle-loaded.ensures.got.0) (known_in c.self.view_is c.requires.context))
    c.args.dst _ c.clear.ensures c.load_handle-loaded.result c.load_handle-loaded.ensures.reads

pub returns-clause-contexts : goal.returns-clause-contexts
returns-clause-contexts c =
    callers_by c.self.invariant c.self.view_is (called_numbers c.load_handle-loaded.ensures.got.0)
