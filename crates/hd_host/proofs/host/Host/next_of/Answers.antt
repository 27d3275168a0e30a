use Rattle.std.proofs.Common.{ap, is_some, subst, sym, ◌∙◌}
use Rattle.hd_model.specs.State.{State, handle_at}
use Rattle.hd_store.specs.{Calls.IsSound, Store.IsOverHeap, Store.Machine}
use Rattle.hd_host.specs.Kinds.{HasNoneOf, IsNextOf}
use Rattle.hd_host.specs.View.{HostView}
use Rattle.hd_host.proofs.{SlotOfHandle.live_small, WholeHost.whole}
use Rattle.hd_host.proofs.host.Host.next_of.Goals as goal

pub first_of-requires-clause-over : goal.first_of-requires-clause-over
first_of-requires-clause-over c = subst IsOverHeap (sym c.contents.ensures.value) c.contents.ensures.heap

pub first_of-requires-clause-sound : goal.first_of-requires-clause-sound
first_of-requires-clause-sound c = subst IsSound (sym c.contents.ensures.value) c.contents.ensures.sound

pub returns-in_default-clause-next : goal.returns-in_default-clause-next
returns-in_default-clause-next c =
    subst (λ (s : State). HasNoneOf s c.args.kinds c.args.cleared c.args.from)
    (ap (λ (m : Machine). m.state) c.contents.ensures.value ∙ ap (λ (v : HostView). v.machine.state) c.self.view_is)
    c.in_default.ensures

pub handle_in-handle-requires : goal.handle_in-handle-requires
handle_in-handle-requires c =
    ap is_some (sym (ap (λ (m : Machine). handle_at m.state c.in-Some.slot) c.contents.ensures.value
    ∙ ap (λ (v : HostView). handle_at v.machine.state c.in-Some.slot) c.self.view_is) ∙ c.in-Some.ensures.is.has.live)

pub returns-clause-next : goal.returns-clause-next
returns-clause-next c =
    let at = ap (λ (m : Machine). m.state) c.contents.ensures.value
    ∙ ap (λ (v : HostView). v.machine.state) c.self.view_is in
    record {
      next = subst (λ (s : State). IsNextOf s c.args.kinds c.args.cleared c.args.from c.in-Some.slot) at
          c.in-Some.ensures;
      handle = record {
        live = ap is_some (sym (ap (λ (s : State). handle_at s c.in-Some.slot) at)
            ∙ c.in-Some.ensures.is.has.live);
        is = c.handle_in-handle.ensures;
      };
      info = sym (ap (λ (v : HostView). handle_at v.machine.state c.in-Some.slot) c.self.view_is)
          ∙ c.in-Some-handle.ensures;
    }

pub returns-clause-few : goal.returns-clause-few
returns-clause-few c =
    let at = ap (λ (m : Machine). m.state) c.contents.ensures.value
    ∙ ap (λ (v : HostView). v.machine.state) c.self.view_is in
    live_small (whole c.self.invariant.host c.self.view_is) c.in-Some.slot
    (ap is_some (sym (ap (λ (s : State). handle_at s c.in-Some.slot) at) ∙ c.in-Some.ensures.is.has.live))
