use Rattle.hd_mark.proofs.Basics.{IsNextDone, MarksOf, advanced, ap, subst, sym, ◌<◌, ◌∙◌}
use Rattle.hd_mark.proofs.MarkPush.{work}
use Rattle.hd_mark.proofs.MarkDrain.{IsDraining, drained, draining_start, draining_on, next_condemned, next_done, settled_empty, work_falls}
use Rattle.hd_mark.proofs.marks.Marks.drain.Goals as goal

pub loop-at-init : goal.loop-at-init
loop-at-init c = draining_start c.args.self.now

pub scan-requires-clause-object : goal.scan-requires-clause-object
scan-requires-clause-object c =
    (next_condemned c.loop-at.invariant c.next_unscanned.ensures.traced c.in-Some.ensures.next).object

pub advance-requires : goal.advance-requires
advance-requires c =
    subst IsNextDone (sym c.scan.ensures)
    (next_done c.loop-at.invariant c.next_unscanned.ensures.traced c.in-Some.ensures.next)

pub loop-at-smaller : goal.loop-at-smaller
loop-at-smaller c =
    let m : MarksOf = c.loop-at.self in
    subst (λ (k : MarksOf). work k.basis.heap k.marks k.unscanned < work m.basis.heap m.marks m.unscanned)
    (sym (c.advance.ensures.after ∙ ap advanced c.scan.ensures))
    (work_falls c.loop-at.invariant c.next_unscanned.ensures.traced c.in-Some.ensures.next)

pub loop-at-preserved : goal.loop-at-preserved
loop-at-preserved c =
    subst (IsDraining c.args.self.now) (sym (c.advance.ensures.after ∙ ap advanced c.scan.ensures))
    (draining_on c.loop-at.invariant c.next_unscanned.ensures.traced c.in-Some.ensures.next)

pub returns-clause-settled : goal.returns-clause-settled
returns-clause-settled c = settled_empty c.next_unscanned.ensures.traced c.in_default.ensures.next

pub returns-clause-grows : goal.returns-clause-grows
returns-clause-grows c =
    (drained c.loop-at.invariant c.next_unscanned.ensures.traced c.in_default.ensures.next).grows
