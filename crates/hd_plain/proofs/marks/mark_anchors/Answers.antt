use Rattle.std.proofs.Common.{IsSome, None, ap, map, subst, sym, ◌∙◌, ◌≡◌, ℕ}
use Rattle.std.specs.FinMap.{get, keys}
use Rattle.hd_plain.specs.Inside.{HasGenerations, IsYoungAnchor, pairs_in, Gains, attaching_at}
use Rattle.hd_plain.specs.Attaching.{ListsAttached}
use Rattle.hd_plain.specs.MachineViews.{MachineView}
use Rattle.hd_plain.specs.Parts.{judge_of}
use Rattle.hd_plain.proofs.AnchorGains.{gains_anchors}
use Rattle.hd_plain.proofs.AttachedLists.{adds_then, from_none, lists_attached}
use Rattle.hd_maps.proofs.ListBuilds.{keys_listed}
use Rattle.hd_plain.proofs.marks.mark_anchors.Goals as goal

pub mark_young-requires : goal.mark_young-requires
mark_young-requires c =
    subst (λ (j : MachineView). HasGenerations j.state.objects) (sym c.machine.view_is)
    c.requires.formed.objects.generations

pub mark_queue-requires : goal.mark_queue-requires
mark_queue-requires c =
    subst (λ (j : MachineView). HasGenerations j.state.objects) (sym c.machine.view_is)
    c.requires.formed.objects.generations

pub note_handles-requires : goal.note_handles-requires
note_handles-requires c =
    subst (λ (j : MachineView). HasGenerations j.state.objects) (sym c.machine.view_is)
    c.requires.formed.objects.generations

pub returns-clause-gains : goal.returns-clause-gains
returns-clause-gains c =
    let s = (judge_of c.machine.inside).state in
    subst (λ (j : MachineView). Gains (IsYoungAnchor c.args.n j.state) c.args.marks.now c.note_handles.new.marks)
    c.machine.view_is
    (gains_anchors s c.args.slots.now
    (keys_listed s.handles c.args.slots.now
    (c.requires.slots ∙ ap (λ (j : MachineView). keys j.state.handles) (sym c.machine.view_is))) c.args.n
    c.args.marks.now c.mark_young.new.self c.mark_queue.new.self c.note_handles.new.marks
    c.in_ok-mark_young.ensures c.in_ok-mark_queue.ensures c.in_ok-note_handles.ensures.held)

pub returns-clause-listed : goal.returns-clause-listed
returns-clause-listed c =
    let s = (judge_of c.machine.inside).state in
    let slots = c.args.slots.now in
    let entries = c.args.entries.now in
    let attached = c.add_slots.new.self in
    let handle_pairs = pairs_in (map (get s.handles) slots) in
    let entry_pairs = pairs_in (map (attaching_at s.weak) entries) in
    subst (λ (j : MachineView). ListsAttached j.state attached) c.machine.view_is
    (lists_attached s attached slots entries
    (keys_listed s.handles slots
    (c.requires.slots ∙ ap (λ (j : MachineView). keys j.state.handles) (sym c.machine.view_is)))
    (keys_listed s.weak entries
    (c.requires.entries ∙ ap (λ (j : MachineView). keys j.state.weak) (sym c.machine.view_is)))
    (subst (λ (j : MachineView). (k : ℕ) → IsSome (get j.state.weak k) → get j.state.handles k ≡ None)
    (sym c.machine.view_is) c.requires.formed.weak.apart)
    (from_none c.none-attached.result attached _ c.none-attached.ensures
    (adds_then c.none-attached.result c.note_handles.new.attached attached handle_pairs entry_pairs
    c.in_ok-note_handles.ensures.pairs c.in_ok-add_slots.ensures)))
