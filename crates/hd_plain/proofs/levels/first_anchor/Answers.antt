use Rattle.std.proofs.Common.{ap, sym, ◌∙◌}
use Rattle.std.specs.FinMap.{values}
use Rattle.hd_plain.specs.Inside.{is_marked}
use Rattle.hd_plain.specs.Levels.{IsFirst}
use Rattle.hd_plain.specs.MachineViews.{MachineView}
use Rattle.hd_plain.specs.Parts.{judge_of}
use Rattle.std.proofs.Common.{subst}
use Rattle.hd_plain.proofs.RootLevels.{first_found}
use Rattle.hd_plain.proofs.levels.first_anchor.Goals as goal

pub returns : goal.returns
returns c =
    let s = (judge_of c.machine.inside).state in
    let set = is_marked c.args.set.now in
    subst (λ (j : MachineView). IsFirst j.state set c.least.result) c.machine.view_is
    (first_found s c.args.handles.now
    (c.requires ∙ ap (λ (j : MachineView). values j.state.handles) (sym c.machine.view_is)) set
    c.open-anchors.result c.mark_statics.new.marks c.mark_queued.new.marks c.mark_held.new.marks
    c.open-anchors.ensures c.in_ok-mark_statics.ensures c.in_ok-mark_queued.ensures c.in_ok-mark_held.ensures
    c.least.result c.least.ensures)
