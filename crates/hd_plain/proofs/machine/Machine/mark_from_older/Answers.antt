use Rattle.std.proofs.Common.{arith, ap, map, subst, sym, ◌∙◌, List, ℕ}
use Rattle.std.proofs.lemmas.Result.{IfOk-weaker}
use Rattle.std.specs.Borrow.{Bor}
use Rattle.hd_model.specs.State.{Object}
use Rattle.hd_model.specs.declared.data.Id.{Id}
use Rattle.hd_plain.specs.Attaching.{ListsAttached}
use Rattle.hd_plain.specs.Inside.{Gains, HasGenerations, IsFromOlder, edges_from, with_rows}
use Rattle.hd_plain.specs.MachineViews.{MachineView}
use Rattle.hd_plain.specs.Parts.{judge_of}
use Rattle.hd_plain.proofs.RootMarks.{gains_older, none_older}
use Rattle.hd_plain.proofs.machine.Machine.mark_from_older.Goals as goal

pub returns-then-n-ge-OLDEST : goal.returns-then-n-ge-OLDEST
returns-then-n-ge-OLDEST c =
    none_older c.args.n c.args.self.now.state c.requires.formed.objects.generations
    (omega (arith, c.if-n-ge-OLDEST.true)) c.args.marks.now

pub mark_from_all-requires : goal.mark_from_all-requires
mark_from_all-requires c =
    subst (λ (j : MachineView). HasGenerations j.state.objects) (sym c.self.view_is)
    c.requires.formed.objects.generations

pub returns : goal.returns
returns c =
    let s = (judge_of c.self.inside).state in
    let a = c.args.attached.now in
    IfOk-weaker c.mark_from_all.result _ _
    (λ _ is. subst (λ (j : MachineView). Gains (IsFromOlder c.args.n j.state) c.args.marks.now
    c.mark_from_all.new.marks) c.self.view_is
    (gains_older c.args.n s
    (subst (λ (j : MachineView). HasGenerations j.state.objects) (sym c.self.view_is)
    c.requires.formed.objects.generations) a
    (subst (λ (j : MachineView). ListsAttached j.state a) (sym c.self.view_is) c.requires.listed)
    c.in_ok-entries.entries.items c.in_ok-entries.ensures c.args.marks.now c.mark_from_all.new.marks
    (is ∙ ap (λ (xs : List (ℕ × Bor (Object Id))). with_rows c.args.marks.now
    (map (edges_from c.args.n s.objects a) xs)) c.deref.ensures.value))) c.mark_from_all.ensures
