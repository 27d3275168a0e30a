use Rattle.std.proofs.Common.{Decides, IsSome, List, None, ap, map, subst, sym, ◌∙◌, ◌≡◌, ℕ}
use Rattle.std.specs.Borrow.{Bor}
use Rattle.std.specs.FinMap.{get, values}
use Rattle.hd_model.specs.State.{Object}
use Rattle.hd_model.specs.declared.data.Id.{Id}
use Rattle.hd_plain.specs.Inside.{is_marked, with_targets}
use Rattle.hd_plain.specs.Levels.{LeadsTo, attacher_at, holder_in}
use Rattle.hd_plain.specs.MachineViews.{MachineView}
use Rattle.hd_plain.specs.Parts.{judge_of}
use Rattle.hd_plain.proofs.RootLevels.{leads_found}
use Rattle.hd_plain.proofs.levels.before.Goals as goal

pub returns : goal.returns
returns c =
    let s = (judge_of c.machine.inside).state in
    let set = is_marked c.args.set.now in
    let found = c.mark_keys.new.marks in
    subst (λ (j : MachineView). (x : Id) → Decides (is_marked found x) (LeadsTo j.state set x))
    c.machine.view_is
    (leads_found s c.args.handles.now
    (c.requires.handles ∙ ap (λ (j : MachineView). values j.state.handles) (sym c.machine.view_is)) set
    c.in_ok-objects.objects.items c.in_ok-objects.ensures c.in_ok-entries.entries.items
    c.in_ok-entries.ensures
    (subst (λ (j : MachineView). (k : ℕ) → IsSome (get j.state.weak k) → get j.state.handles k ≡ None)
    (sym c.machine.view_is) c.requires.formed.weak.apart)
    c.open-found.result c.mark_holders.new.marks c.mark_targets.new.marks found c.open-found.ensures
    (c.in_ok-mark_holders.ensures
    ∙ ap (λ (xs : List (ℕ × Bor (Object Id))). with_targets c.open-found.result (map (holder_in set) xs))
    c.deref.ensures.value)
    c.in_ok-mark_targets.ensures
    (c.in_ok-mark_keys.ensures
    ∙ ap (λ (xs : List ℕ). with_targets c.mark_targets.new.marks (map (attacher_at set s.weak) xs))
    c.deref-2.ensures.value))
