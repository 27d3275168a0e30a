use Rattle.hd_store.specs.Replies.{found_reply}
use Rattle.hd_host.proofs.ReplyForms.{finds, not_found}
use Rattle.hd_host.proofs.GrownCalls.{called_numbers, callers_by, host_on, refl, tried}
use Rattle.hd_host.proofs.host.Host.table_find.Goals as goal

pub invariant_of-self : goal.invariant_of-self
invariant_of-self c =
    host_on c.self.invariant c.self.view_is c.requires.context refl refl c.find_entry-came.ensures

pub returns-clause-does : goal.returns-clause-does
returns-clause-does c =
    tried c.self.invariant c.self.view_is c.requires.context refl refl found_reply c.find_entry-came.result c.find_entry-came.ensures
    not_found finds _ _ c.settle.ensures

pub returns-clause-contexts : goal.returns-clause-contexts
returns-clause-contexts c =
    callers_by c.self.invariant c.self.view_is (called_numbers c.find_entry-came.ensures)
