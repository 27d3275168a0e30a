use Rattle.std.proofs.Common.{ap, subst, sym}
use Rattle.hd_maps.specs.StoredObjects.{IsYoungest}
use Rattle.hd_plain.specs.Inside.{HasGenerations}
use Rattle.hd_plain.specs.MachineViews.{MachineView}
use Rattle.hd_model.specs.Collect.{CollectsState}
use Rattle.hd_plain.proofs.IdleState.{idle}
use Rattle.hd_plain.proofs.WholeCollection.{few, whole, youngest_after}
use Rattle.hd_plain.proofs.machine.Machine.collect.Goals as goal

pub returns-then-youngest-n-clause-collects : goal.returns-then-youngest-n-clause-collects
returns-then-youngest-n-clause-collects c =
    idle c.args.n c.args.self.now.numbers c.args.self.now.state c.requires.formed c.youngest-youngest.result
    c.youngest-youngest.ensures.from c.if-youngest-n.true c.forget.new.self.state c.in_ok-forget.ensures.each
    (ap (λ (j : MachineView). j.state) c.in_ok-forget.ensures.rest)

pub raise_youngest-requires : goal.raise_youngest-requires
raise_youngest-requires c =
    subst (λ g. IsYoungest g c.change.new.self.state.objects) (sym c.raised.ensures)
    (youngest_after c.args.n c.args.self.now.numbers c.args.self.now.state c.forget-2.new.self.state
    c.change.new.self.state c.requires.formed c.in_ok-walk.walk c.in_ok-walk.ensures c.in_ok-decided.decided
    c.in_ok-decided.ensures.reached c.in_ok-decided.ensures.kept c.in_ok-changes.changes
    (ap (λ (j : MachineView). j.state) c.in_ok-forget-2.ensures.rest) c.in_ok-changes.ensures.passes
    c.youngest-youngest.result c.youngest-youngest.ensures)

pub report-requires : goal.report-requires
report-requires c =
    few c.args.n c.args.self.now.numbers c.args.self.now.state c.forget-2.new.self.state
    c.change.new.self.state c.requires.formed c.in_ok-walk.walk c.in_ok-walk.ensures c.in_ok-decided.decided
    c.in_ok-decided.ensures.reached c.in_ok-decided.ensures.kept c.in_ok-changes.changes
    (ap (λ (j : MachineView). j.state) c.in_ok-forget-2.ensures.rest) c.in_ok-changes.ensures.passes

pub returns-clause-collects : goal.returns-clause-collects
returns-clause-collects c =
    subst (λ (j : MachineView). CollectsState c.args.n c.args.self.now.state j.state c.report.result)
    (sym c.raise_youngest.ensures)
    (subst (λ r. CollectsState c.args.n c.args.self.now.state c.change.new.self.state r)
    (sym c.report.ensures)
    (whole c.args.n c.args.self.now.numbers c.args.self.now.state c.forget-2.new.self.state
    c.change.new.self.state c.requires.formed c.in_ok-walk.walk c.in_ok-walk.ensures c.in_ok-decided.decided
    c.in_ok-decided.ensures.reached c.in_ok-decided.ensures.kept c.in_ok-changes.changes
    (ap (λ (j : MachineView). j.state) c.in_ok-forget-2.ensures.rest) c.in_ok-changes.ensures.passes
    c.in_ok-forget-2.ensures.each))

pub change-requires : goal.change-requires
change-requires c =
    subst HasGenerations (ap (λ (j : MachineView). j.state.objects) (sym c.in_ok-forget-2.ensures.rest))
    c.requires.formed.objects.generations
