use Rattle.std.proofs.Common.{List, ap, arith, eqb-true, length, map, subst, sym, ℕ, ◌∙◌, ◌≡◌}
use Rattle.std.specs.FinMap.{keys}
use Rattle.hd_plain.specs.Inside.{pass, without_one, is_marked, with_targets, no_marks, pinned_at}
use Rattle.hd_plain.specs.MachineViews.{MachineView}
use Rattle.hd_maps.proofs.ListBuilds.{keys_listed}
use Rattle.hd_plain.proofs.ForgottenPins.{none_pinned, pinned_left}
use Rattle.hd_plain.proofs.machine.Machine.forget.Goals as goal

pub returns-then-is_empty-clause-each : goal.returns-then-is_empty-clause-each
returns-then-is_empty-clause-each c =
    let zero = eqb-true _ _ (sym c.is_empty.ensures ∙ c.if-is_empty.true) in
    let none : length c.in_ok-ids.ids.items ≡ 0 = omega (arith, zero, c.in_ok-ids.ids.ok.0) in
    none_pinned c.args.self.now.state c.in_ok-ids.ids.items
    (c.in_ok-ids.ensures ∙ ap (λ (j : MachineView). keys j.state.pinned) c.self.view_is) none

pub returns-clause-each : goal.returns-clause-each
returns-clause-each c =
    let s = c.args.self.now.state in
    let slots = c.in_ok-slots.slots.items in
    let ids = c.in_ok-ids.ids.items in
    let pinned = c.in_ok-pinned.pinned in
    pinned_left s slots
    (keys_listed s.handles slots
    (c.in_ok-slots.ensures.each ∙ ap (λ (j : MachineView). keys j.state.handles) c.self.view_is))
    pinned
    (subst (λ (j : MachineView). pinned ≡ with_targets no_marks (map (pinned_at j.state.handles) slots))
    c.self.view_is
    (subst (λ (xs : List ℕ). pinned
    ≡ with_targets no_marks (map (pinned_at c.self.inside.table.handles) xs))
    c.deref.ensures.value c.in_ok-pinned.ensures))
    ids (c.in_ok-ids.ensures ∙ ap (λ (j : MachineView). keys j.state.pinned) c.self.view_is)
    c.unpin.new.addresses (subst (λ (j : MachineView). c.unpin.new.addresses
    ≡ pass (without_one (is_marked pinned)) j.state.pinned ids) c.self.view_is
    (subst (λ (xs : List ℕ). c.unpin.new.addresses
    ≡ pass (without_one (is_marked pinned)) c.self.inside.pinned xs) c.deref-2.ensures.value
    c.unpin.ensures))
