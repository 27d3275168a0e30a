use Rattle.std.proofs.Common.{ap, refl}
use Rattle.hd_model.specs.{Command.load_reply, State.handle_register_of}
use Rattle.hd_store.specs.Store.{Machine}
use Rattle.hd_host.proofs.{Refused.not_refused, ReplyForms.loads}
use Rattle.hd_host.proofs.GrownCalls.{called_numbers, callers_by, host_of, replied_of}
use Rattle.hd_host.proofs.host.Host.handle_get.Goals as goal

pub invariant_of-self : goal.invariant_of-self
invariant_of-self c =
    host_of c.self.invariant c.self.view_is c.requires.context
    c.in-Some.ensures refl refl refl c.load_target-target.new.self (
      c.load_target-target.ensures.called,
      ap (λ (x : Machine). handle_register_of x.state c.args.context 0)
          c.load_target-target.ensures.loads,
    )

pub returns-clause-does : goal.returns-clause-does
returns-clause-does c =
    replied_of c.self.invariant c.self.view_is c.requires.context
    c.in-Some.ensures refl refl refl c.load_target-target.new.self (load_reply c.load_target-target.result) (
      c.load_target-target.ensures.called,
      ap (λ (x : Machine). handle_register_of x.state c.args.context 0)
          c.load_target-target.ensures.loads,
    )
    (not_refused c.load_target-target.result) (loads c.load_target-target.result) c.clear.ensures

pub returns-clause-contexts : goal.returns-clause-contexts
returns-clause-contexts c =
    callers_by c.self.invariant c.self.view_is (called_numbers c.load_target-target.ensures.called)
