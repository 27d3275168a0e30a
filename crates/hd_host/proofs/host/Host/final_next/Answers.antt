use Rattle.hd_commands.specs.Done.{queued_reply}
use Rattle.hd_host.proofs.ReplyForms.{not_queued, queues}
use Rattle.hd_host.proofs.GrownCalls.{called_numbers, callers_by, host_on, refl, replied_on}
use Rattle.hd_host.proofs.host.Host.final_next.Goals as goal

pub invariant_of-self : goal.invariant_of-self
invariant_of-self c =
    host_on c.self.invariant c.self.view_is c.requires.context refl refl c.take_queued-taken.ensures

pub returns-clause-does : goal.returns-clause-does
returns-clause-does c =
    replied_on c.self.invariant c.self.view_is c.requires.context refl refl (queued_reply c.take_queued-taken.result) c.take_queued-taken.ensures (not_queued c.take_queued-taken.result) (queues c.take_queued-taken.result)
    c.clear.ensures

pub returns-clause-contexts : goal.returns-clause-contexts
returns-clause-contexts c =
    callers_by c.self.invariant c.self.view_is (called_numbers c.take_queued-taken.ensures)
