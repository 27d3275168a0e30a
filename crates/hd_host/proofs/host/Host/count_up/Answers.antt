use Rattle.hd_model.specs.declared.data.Reply.TheVariants as reply
use Rattle.hd_host.proofs.GrownCalls.{called_numbers, callers_by, host_of, refl, some_context, tried_of}
use Rattle.hd_host.specs.Calls.{no_count}
use Rattle.hd_host.proofs.SameHost.{unchanged}
use Rattle.hd_host.proofs.host.Host.count_up.Goals as goal

pub returns-then-is_at_end-clause-does : goal.returns-then-is_at_end-clause-does
returns-then-is_at_end-clause-does c =
    let at = c.is_at_end.ensures.at_end c.if-is_at_end.true in (
      (c.in-Some.slot, c.in-Some.ensures, no_count 0 c.in-Some.slot at.0 refl at.1 at.2),
      unchanged c.args.self.now,
    )

pub invariant_of-self : goal.invariant_of-self
invariant_of-self c =
    host_of c.self.invariant c.self.view_is (some_context c.self.invariant c.self.view_is)
    c.in-Some.ensures refl refl refl c.raise_count-came.new.self c.raise_count-came.ensures

pub returns-clause-does : goal.returns-clause-does
returns-clause-does c =
    tried_of c.self.invariant c.self.view_is (some_context c.self.invariant c.self.view_is)
    c.in-Some.ensures refl refl refl c.raise_count-came.new.self reply.Value
    c.raise_count-came.result c.raise_count-came.ensures (λ _. refl) (λ _. refl) _ _ c.settle_count.ensures

pub returns-clause-contexts : goal.returns-clause-contexts
returns-clause-contexts c =
    callers_by c.self.invariant c.self.view_is (called_numbers c.raise_count-came.ensures.0)
