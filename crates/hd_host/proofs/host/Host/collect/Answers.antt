use Rattle.hd_model.specs.declared.data.Reply.TheVariants as reply
use Rattle.hd_host.proofs.{GrownParts.wide_out, OutOfMemory.collect_ran_out, OutOfMemory.out_as_it_was}
use Rattle.hd_host.proofs.GrownCalls.{called_numbers, callers_by, host_on, host_without, refl, replied_on, some_context}
use Rattle.hd_host.proofs.host.Host.collect.Goals as goal

pub invariant_of-self : goal.invariant_of-self
invariant_of-self c =
    host_on c.self.invariant c.self.view_is (some_context c.self.invariant c.self.view_is) refl refl c.in-Ok.ensures

pub returns-in-Ok-clause-does : goal.returns-in-Ok-clause-does
returns-in-Ok-clause-does c =
    replied_on c.self.invariant c.self.view_is (some_context c.self.invariant c.self.view_is) refl refl (reply.Report c.in-Ok.report) c.in-Ok.ensures refl refl c.clear.ensures

pub returns-in-Ok-clause-contexts : goal.returns-in-Ok-clause-contexts
returns-in-Ok-clause-contexts c =
    callers_by c.self.invariant c.self.view_is (called_numbers c.in-Ok.ensures)

pub invariant_of-self-in-Err : goal.invariant_of-self-in-Err
invariant_of-self-in-Err c =
    host_without c.in-Err.ensures c.self.invariant

pub returns-in-Err-clause-does : goal.returns-in-Err-clause-does
returns-in-Err-clause-does c =
    let out = wide_out c.self.inside.limit c.in-Err.ensures in
    (collect_ran_out out c.self.view_is, out_as_it_was out c.self.view_is)
