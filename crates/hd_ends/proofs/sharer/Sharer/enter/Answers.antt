use Rattle.std.proofs.Common.{ap, subst, ◌∙◌}
use Rattle.hd_host.specs.View.{HostView}
use Rattle.hd_ends.specs.Ends.{SharerView, Takes, with_last}
use Rattle.hd_ends.specs.Views.{sharer_of, with_shared}
use Rattle.hd_turns.specs.Views.{with_value}
use Rattle.hd_ends.proofs.SharerTurns.{sharer_enters, sharer_misses, takes}
use Rattle.hd_ends.proofs.sharer.Sharer.enter.Goals as goal

pub invariant_of-self : goal.invariant_of-self
invariant_of-self c = sharer_misses c.self.invariant c.if-not-try_enter.ensures.busy

pub invariant_of-self-2 : goal.invariant_of-self-2
invariant_of-self-2 c =
    sharer_enters c.self.invariant c.if-not-try_enter.ensures.turned.1 c.value-behind.ensures.value c.recall.new.self

pub returns-clause-taken : goal.returns-clause-taken
returns-clause-taken c =
    let left = with_value c.try_enter.new.self (with_shared c.value-behind.result.now c.recall.new.self) in
    subst (λ (s : SharerView). Takes s (sharer_of left c.self.inside.each c.self.inside.last)) c.self.view_is
    (takes c.self.invariant c.if-not-try_enter.ensures.turned.1 c.value-behind.ensures.value
    (c.recall.ensures ∙ ap (λ (v : HostView). with_last v c.self.inside.last) c.host_mut.ensures.value))
