use Rattle.hd_model.specs.declared.data.Reply.TheVariants as reply
use Rattle.hd_host.proofs.{GrownParts.wide_out, OutOfMemory.new_ran_out, OutOfMemory.out_as_it_was, SameHost.unchanged}
use Rattle.hd_host.proofs.GrownCalls.{called_numbers, callers_by, host_on, host_without, refl, tried}
use Rattle.hd_host.proofs.host.Host.object_new.Goals as goal

pub returns-then-has_made_all-clause-does : goal.returns-then-has_made_all-clause-does
returns-then-has_made_all-clause-does c =
    (c.no_serial_left.ensures c.args.dst c.args.fin, unchanged c.args.self.now)

pub invariant_of-self : goal.invariant_of-self
invariant_of-self c =
    host_on c.self.invariant c.self.view_is c.requires.context refl refl c.in-Ok.ensures

pub returns-in-Ok-clause-does : goal.returns-in-Ok-clause-does
returns-in-Ok-clause-does c =
    tried c.self.invariant c.self.view_is c.requires.context refl refl reply.Object c.in-Ok.came c.in-Ok.ensures
    (λ _. refl) (λ _. refl) _ _ c.settle.ensures

pub returns-in-Ok-clause-contexts : goal.returns-in-Ok-clause-contexts
returns-in-Ok-clause-contexts c =
    callers_by c.self.invariant c.self.view_is (called_numbers c.in-Ok.ensures)

pub invariant_of-self-in-Err : goal.invariant_of-self-in-Err
invariant_of-self-in-Err c =
    host_without c.in-Err.ensures c.self.invariant

pub returns-in-Err-clause-does : goal.returns-in-Err-clause-does
returns-in-Err-clause-does c =
    let out = wide_out c.self.inside.limit c.in-Err.ensures in (
      new_ran_out out c.self.view_is (c.has_made_all.ensures.more c.if-has_made_all.false),
      out_as_it_was out c.self.view_is,
    )
