use Rattle.hd_gc.proofs.Basics.{Basis, Counts, IsClosure, IsEdge, IsOut, arith, objects_of, promoted_in, row_at, subst, ◌∙◌, ◌≡◌}
use Rattle.hd_gc.proofs.{TraceMarks.still_closed, MarkParts.closure_alone, MarkParts.resurrection, PromoteSteps.tracing_on}
use Rattle.hd_gc.specs.{Ready.scene_of, Inside.parts_in}
use Rattle.hd_gc.proofs.phases.Marked.revive.Goals as goal

pub follow-requires-clause-due : goal.follow-requires-clause-due
follow-requires-clause-due g c =
    (tracing_on c.requires.tracing c.revive-revived.ensures.settled c.revive-revived.ensures.basis).due

pub follow-requires-clause-fields : goal.follow-requires-clause-fields
follow-requires-clause-fields g c =
    still_closed c.requires.may c.requires.tracing.basis c.requires.tracing.settled
    c.revive-revived.ensures.basis c.revive-revived.ensures.settled
    c.revive-revived.ensures.resurrects.grows.keeps

pub returns-clause-tracing : goal.returns-clause-tracing
returns-clause-tracing g c =
    tracing_on c.requires.tracing c.follow.ensures.settled
    (c.follow.ensures.basis ∙ c.revive-revived.ensures.basis)

pub returns-clause-resurrected : goal.returns-clause-resurrected
returns-clause-resurrected g c = record {
  pinned = c.follow.ensures.pinned ∙ c.revive-revived.ensures.pinned;
  resurrection =
      resurrection (scene_of (parts_in c.args.self.now.context c.args.seg.now c.args.fin.now))
      c.revive-revived.ensures.resurrects
      (subst (λ (b : Basis). IsClosure (IsEdge (objects_of b) (row_at c.args.seg.now))
      (promoted_in c.revive-revived.new.marker) (promoted_in c.follow.new.marker))
      (c.revive-revived.ensures.basis ∙ c.requires.tracing.basis) c.follow.ensures.closure);
}

-- nothing is resurrected
pub returns-then-nobody-clause-tracing : goal.returns-then-nobody-clause-tracing
returns-then-nobody-clause-tracing g c =
    tracing_on c.requires.tracing c.revive-revived.ensures.settled c.revive-revived.ensures.basis

pub returns-then-nobody-clause-resurrected : goal.returns-then-nobody-clause-resurrected
returns-then-nobody-clause-resurrected g c =
    let s = scene_of (parts_in c.args.self.now.context c.args.seg.now c.args.fin.now) in
    let zero : c.revive-revived.result ≡ 0 = omega (arith, c.if-nobody.true) in
    let none = subst (Counts (IsOut s.object c.args.self.now.context.condemned
    (promoted_in c.args.self.now.marks))) zero c.revive-revived.ensures.count in
    record {
      pinned = c.revive-revived.ensures.pinned;
      resurrection = resurrection s c.revive-revived.ensures.resurrects
          (closure_alone s c.revive-revived.ensures.resurrects none c.requires.may.edges);
    }
