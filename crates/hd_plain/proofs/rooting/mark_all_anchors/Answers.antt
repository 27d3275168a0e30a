use Rattle.std.proofs.Common.{ap, ◌∙◌}
use Rattle.std.specs.FinMap.{keys}
use Rattle.hd_plain.specs.MachineViews.{MachineView}
use Rattle.std.proofs.lemmas.Result.{IfOk-weaker}
use Rattle.hd_plain.proofs.AnchorGains.{gains_all}
use Rattle.hd_plain.proofs.rooting.mark_all_anchors.Goals as goal

pub mark_anchors-requires-clause-slots : goal.mark_anchors-requires-clause-slots
mark_anchors-requires-clause-slots c =
    c.deref.ensures.value ∙ c.in_ok-slots.ensures.each
    ∙ ap (λ (j : MachineView). keys j.state.handles) c.machine.view_is

pub mark_anchors-requires-clause-entries : goal.mark_anchors-requires-clause-entries
mark_anchors-requires-clause-entries c =
    c.deref-2.ensures.value ∙ c.in_ok-entries.ensures ∙ ap (λ (j : MachineView). keys j.state.weak) c.machine.view_is

pub returns-clause-gains : goal.returns-clause-gains
returns-clause-gains c =
    IfOk-weaker c.mark_anchors.result _ _
    (λ _ gains. gains_all c.args.machine.now.state c.requires.objects.generations _ _ gains)
    c.mark_anchors.ensures.gains
