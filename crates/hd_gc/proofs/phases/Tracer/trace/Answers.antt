use Rattle.hd_gc.proofs.Basics.{◌∙◌}
use Rattle.hd_gc.proofs.PromoteSteps.{may_promote, tracing_on}
use Rattle.hd_gc.proofs.TraceMarks.{fields_closed, traced_marks}
use Rattle.hd_gc.proofs.phases.Tracer.trace.Goals as goal

pub promote_roots-requires : goal.promote_roots-requires
promote_roots-requires g c =
    may_promote c.requires.tracing.settled c.requires.tracing.basis c.requires.ready.whole.named

pub promote_queue-requires : goal.promote_queue-requires
promote_queue-requires g c =
    may_promote c.promote_roots.ensures.settled (c.promote_roots.ensures.basis ∙ c.requires.tracing.basis)
    c.requires.ready.whole.queue

pub promote_held-requires : goal.promote_held-requires
promote_held-requires g c =
    tracing_on c.requires.tracing c.promote_queue.ensures.settled
    (c.promote_queue.ensures.basis ∙ c.promote_roots.ensures.basis)

pub promote_carded-requires : goal.promote_carded-requires
promote_carded-requires g c =
    may_promote c.promote_held.ensures.holds.settled
    (c.promote_held.ensures.holds.basis ∙ c.promote_queue.ensures.basis ∙ c.promote_roots.ensures.basis
    ∙ c.requires.tracing.basis)
    (λ x f. c.requires.ready.whole.fields f.from x f.field)

pub follow-requires-clause-due : goal.follow-requires-clause-due
follow-requires-clause-due g c =
    (tracing_on c.requires.tracing c.promote_carded.ensures.settled
    (c.promote_carded.ensures.basis ∙ c.promote_held.ensures.holds.basis ∙ c.promote_queue.ensures.basis
    ∙ c.promote_roots.ensures.basis)).due

pub follow-requires-clause-fields : goal.follow-requires-clause-fields
follow-requires-clause-fields g c =
    fields_closed c.requires.first c.requires.ready c.promote_roots.ensures c.promote_queue.ensures
    c.promote_held.ensures.holds c.promote_carded.ensures

pub returns-clause-tracing : goal.returns-clause-tracing
returns-clause-tracing g c =
    tracing_on c.requires.tracing c.follow.ensures.settled
    (c.follow.ensures.basis ∙ c.promote_carded.ensures.basis ∙ c.promote_held.ensures.holds.basis
    ∙ c.promote_queue.ensures.basis ∙ c.promote_roots.ensures.basis)

pub returns-clause-traced : goal.returns-clause-traced
returns-clause-traced g c =
    traced_marks c.requires.first c.requires.ready c.promote_roots.ensures c.promote_queue.ensures
    c.promote_held.ensures.holds c.promote_carded.ensures c.follow.ensures.pinned c.follow.ensures.closure
