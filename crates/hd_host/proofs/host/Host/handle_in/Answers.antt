use Rattle.std.proofs.Common.{subst, sym, ◌∙◌}
use Rattle.std.specs.Prelude.{IsSome}
use Rattle.hd_model.specs.State.{handle_at}
use Rattle.hd_host.specs.View.{HostView}
use Rattle.hd_host.proofs.{GrownParts.slot_within, PaddedEntries.index_padded, SlotOfHandle.entry_is}
use Rattle.hd_host.proofs.host.Host.handle_in.Goals as goal

pub at-requires : goal.at-requires
at-requires c =
    slot_within c.self.invariant.sized c.args.slot
    (subst (λ (v : HostView). IsSome (handle_at v.machine.state c.args.slot)) (sym c.self.view_is) c.requires)

pub returns : goal.returns
returns c =
    let low = slot_within c.self.invariant.sized c.args.slot
    (subst (λ (v : HostView). IsSome (handle_at v.machine.state c.args.slot)) (sym c.self.view_is) c.requires) in
    let same = sym (index_padded c.self.inside.limit c.self.inside.stamps c.args.slot.0 low)
    ∙ entry_is c.self.invariant.host c.self.view_is c.args.slot c.requires in
    c.at.ensures ∙ (λ i. record { 0 = same i })
