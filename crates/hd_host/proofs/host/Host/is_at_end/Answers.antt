use Rattle.std.proofs.Common.{Some, arith, subst, sym, ◌+◌, ◌<◌, ◌^◌, ◌∙◌, ◌≡◌}
use Rattle.std.proofs.lemmas.Option.{same_Some}
use Rattle.hd_model.specs.{declared.data.Id.Id, Handles.handle_of, State.Handle as Held, State.count_of, State.handle_at}
use Rattle.hd_host.specs.View.{HostView}
use Rattle.hd_host.proofs.host.Host.is_at_end.Goals as goal

pub returns-in-Some-clause-at_end : goal.returns-in-Some-clause-at_end
returns-in-Some-clause-at_end c =
    λ at. (
      handle_of c.in-Some.info,
      subst (λ (v : HostView). handle_at v.machine.state c.args.slot ≡ Some (handle_of c.in-Some.info)) c.self.view_is
          c.in-Some.ensures,
      omega (arith, c.is_last.ensures.last at, c.count_of.ensures),
    )

pub returns-in-Some-clause-below : goal.returns-in-Some-clause-below
returns-in-Some-clause-below c =
    λ low held live.
    let same = same_Some (handle_of c.in-Some.info) held (sym (subst (λ (v : HostView). handle_at v.machine.state c.args.slot ≡ Some (handle_of c.in-Some.info)) c.self.view_is
    c.in-Some.ensures) ∙ live) in
    subst (λ (h : Held Id). count_of h.extra + 1 < 2 ^ 32) same
    (omega (arith, c.is_last.ensures.below low, c.count_of.ensures))
