use Rattle.hd_store.specs.Replies.{removed_reply}
use Rattle.hd_host.proofs.ReplyForms.{not_removed, removes}
use Rattle.hd_host.proofs.GrownCalls.{called_numbers, callers_by, host_on, refl, tried}
use Rattle.hd_host.proofs.host.Host.table_remove.Goals as goal

pub invariant_of-self : goal.invariant_of-self
invariant_of-self c =
    host_on c.self.invariant c.self.view_is c.requires.context refl refl c.remove_entry-came.ensures

pub returns-clause-does : goal.returns-clause-does
returns-clause-does c =
    tried c.self.invariant c.self.view_is c.requires.context refl refl removed_reply c.remove_entry-came.result c.remove_entry-came.ensures
    not_removed removes _ _ c.settle.ensures

pub returns-clause-contexts : goal.returns-clause-contexts
returns-clause-contexts c =
    callers_by c.self.invariant c.self.view_is (called_numbers c.remove_entry-came.ensures)
