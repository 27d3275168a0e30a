use Rattle.std.proofs.Common.{ap, subst, sym, ◌∙◌}
use Rattle.hd_plain.specs.Attaching.{ListsAttached}
use Rattle.hd_plain.specs.Inside.{HasGenerations, YoungEdge}
use Rattle.hd_plain.specs.MachineViews.{MachineView}
use Rattle.hd_plain.specs.Parts.{judge_of}
use Rattle.hd_plain.proofs.FollowedEdges.{marks_followed, marks_nearer}
use Rattle.hd_plain.proofs.MarkedSets.{Closing, closing_end, closing_start}
use Rattle.hd_plain.proofs.marks.Marks.close.Goals as goal

pub objects-init : goal.objects-init
objects-init c = closing_start (YoungEdge c.args.n c.args.machine.now.state) c.args.self.now c.requires.awaits

pub mark_fields-requires : goal.mark_fields-requires
mark_fields-requires c =
    subst (λ (j : MachineView). HasGenerations j.state.objects) (sym c.machine.view_is) c.requires.generations

pub mark_secondaries-requires : goal.mark_secondaries-requires
mark_secondaries-requires c =
    subst (λ (j : MachineView). HasGenerations j.state.objects) (sym c.machine.view_is) c.requires.generations

pub objects-preserved : goal.objects-preserved
objects-preserved c =
    let s = (judge_of c.machine.inside).state in
    let closing : MachineView → _ → Type 0 = λ j. Closing (YoungEdge c.args.n j.state) c.args.self.now in
    subst (λ (j : MachineView). closing j c.mark_secondaries.new.self) c.machine.view_is
    (marks_followed c.args.n s c.args.attached.now c.in-Some.id c.take.new.self
    c.in-Some.ensures.taken c.in_ok-mark_fields.ensures c.in_ok-mark_secondaries.ensures
    (subst (λ (j : MachineView). ListsAttached j.state c.args.attached.now) (sym c.machine.view_is)
    c.requires.attached) c.args.self.now
    (subst (λ (j : MachineView). closing j c.objects.self) (sym c.machine.view_is) c.objects.invariant))

pub objects-smaller : goal.objects-smaller
objects-smaller c =
    marks_nearer c.args.n (judge_of c.machine.inside).state c.args.attached.now c.in-Some.id c.take.new.self
    c.in-Some.ensures.taken c.in_ok-mark_fields.ensures c.in_ok-mark_secondaries.ensures c.take.ensures.few

pub returns : goal.returns
returns c =
    let edge = YoungEdge c.args.n c.args.machine.now.state in
    let same = c.in_default.ensures.taken.1 in
    closing_end edge c.args.self.now c.take.new.self
    (subst (λ m. Closing edge c.args.self.now m) (sym same) c.objects.invariant)
    (ap (λ m. m.left) same ∙ c.in_default.ensures.taken.0)
