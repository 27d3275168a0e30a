use Rattle.hd_gc.proofs.Basics.{Basis, IsClosed, IsField, arith, basis_in, objects_of, promoted_in, subst, sym}
use Rattle.hd_gc.proofs.ClearTasks.{short_cleared, long_cleared}
use Rattle.hd_gc.proofs.MarkAndClearPhases.{may_revive, room_enough, log_counts, closed4, steps_cleared, marked_and_cleared}
use Rattle.hd_gc.proofs.ReportCounts.{counted_few}
use Rattle.hd_gc.proofs.phases.Marked.clear.Goals as goal

pub revive-revived-requires-clause-may : goal.revive-revived-requires-clause-may
revive-revived-requires-clause-may g c =
    may_revive c.requires.ready c.requires.traced (short_cleared c.clear_by-short.ensures.clears)

pub revive-revived-requires-clause-room : goal.revive-revived-requires-clause-room
revive-revived-requires-clause-room g c =
    room_enough c.requires.ready c.requires.traced (short_cleared c.clear_by-short.ensures.clears)
    c.requires.room

pub lay-requires-clause-closed : goal.lay-requires-clause-closed
lay-requires-clause-closed g c =
    subst (λ (b : Basis). IsClosed (IsField (objects_of b)) (promoted_in c.revive-revived.new.self.marks))
    (sym c.requires.basis)
    (closed4 c.requires.ready c.requires.traced (short_cleared c.clear_by-short.ensures.clears)
    c.revive-revived.ensures.resurrected (long_cleared c.clear_by-long.ensures.clears))

pub returns-clause-steps : goal.returns-clause-steps
returns-clause-steps g c =
    steps_cleared c.requires.ready c.requires.traced (short_cleared c.clear_by-short.ensures.clears)
    c.revive-revived.ensures.resurrected (long_cleared c.clear_by-long.ensures.clears) c.args.steps.now
    c.clear_by-short.ensures.steps c.revive-revived.ensures.steps
    c.clear_by-long.ensures.steps c.clear-dep.ensures.steps

pub returns-clause-cleared : goal.returns-clause-cleared
returns-clause-cleared g c =
    marked_and_cleared c.requires.ready c.requires.traced (short_cleared c.clear_by-short.ensures.clears)
    c.revive-revived.ensures.resurrected (long_cleared c.clear_by-long.ensures.clears)
    c.clear-dep.ensures.whole c.clear-dep.ensures.table c.clear-dep.ensures.whole_count
    c.revive-revived.ensures.count
    (log_counts c.revive-revived.new.self.marks (basis_in c.args.self.context) c.logged-kept.result
    c.revive-revived.ensures.tracing.basis c.revive-revived.ensures.tracing.settled c.logged-kept.ensures)
    c.lay.ensures.laid c.requires.basis c.lay.ensures.basis c.lay.ensures.kept c.lay.ensures.pinned
    c.lay.ensures.stays (λ i. c.revive-revived.new.fin.queued) c.revive-revived.ensures.room

pub overflow_cast-kept : goal.overflow_cast-kept
overflow_cast-kept g c =
    let few =
    counted_few c.args.self.context.heap.now c.args.self.context.condemned
    (promoted_in c.revive-revived.new.self.marks) c.logged-kept.result
    (log_counts c.revive-revived.new.self.marks (basis_in c.args.self.context) c.logged-kept.result
    c.revive-revived.ensures.tracing.basis c.revive-revived.ensures.tracing.settled c.logged-kept.ensures) in
    omega (arith, few, c.requires.few)
