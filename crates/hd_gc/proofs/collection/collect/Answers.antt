use Rattle.hd_gc.proofs.Basics.{Basis, Counts, Heap, IsCondemned, IsSameShape, ap, arith, kept_in, objects_of, subst, sym, true, ◌≡◌}
use Rattle.hd_gc.proofs.{FreeRegions.ready_with_free, FreeRegions.collected_with_free, FreeRegions.holds_regions, CollectedScene.collected}
use Rattle.hd_gc.proofs.KeptScene.{clumps_left, queue_kept, queue_objects, roots_kept, rows_kept}
use Rattle.hd_gc.proofs.LostRegistrations.{same_shape, same_cards}
use Rattle.hd_gc.proofs.collection.collect.Goals as goal

pub mark_and_clear-requires-clause-ready : goal.mark_and_clear-requires-clause-ready
mark_and_clear-requires-clause-ready g c =
    ready_with_free c.take.ensures.same c.requires.ready

pub mark_and_clear-requires-clause-few : goal.mark_and_clear-requires-clause-few
mark_and_clear-requires-clause-few g c =
    let ready = ready_with_free c.take.ensures.same c.requires.ready in
    omega (arith, ready.room, c.len-joined.ensures.queue.low)

pub report-report-requires-clause-kept : goal.report-report-requires-clause-kept
report-report-requires-clause-kept g c =
    let found = c.in_ok-found.ensures.found in
    subst (λ (b : Basis). Counts (λ x. IsCondemned (objects_of b) b.condemned x
    × (kept_in c.mark_and_clear.new.plan x ≡ true)) c.in_ok-found.found.kept) (sym found.basis) found.kept

pub settle-requires : goal.settle-requires
settle-requires g c =
    queue_objects (ready_with_free c.take.ensures.same c.requires.ready) c.in_ok-found.ensures.found
    c.report-report.ensures

pub relocate_rows-requires-clause-names : goal.relocate_rows-requires-clause-names
relocate_rows-requires-clause-names g c =
    rows_kept (ready_with_free c.take.ensures.same c.requires.ready) c.in_ok-found.ensures.found
    c.report-report.ensures

pub relocate_rows-requires-clause-clumps : goal.relocate_rows-requires-clause-clumps
relocate_rows-requires-clause-clumps g c =
    clumps_left (ready_with_free c.take.ensures.same c.requires.ready) c.in_ok-found.ensures.found
    c.report-report.ensures

pub relocate-requires-clause-kept : goal.relocate-requires-clause-kept
relocate-requires-clause-kept g c =
    queue_kept (ready_with_free c.take.ensures.same c.requires.ready) c.in_ok-found.ensures.found
    c.report-report.ensures

pub relocate_roots-requires-clause-kept : goal.relocate_roots-requires-clause-kept
relocate_roots-requires-clause-kept g c =
    roots_kept (ready_with_free c.take.ensures.same c.requires.ready) c.in_ok-found.ensures.found
    c.report-report.ensures

pub commit-requires-clause-same : goal.commit-requires-clause-same
commit-requires-clause-same g c =
    subst (λ (k : Heap). IsSameShape k c.settle.new.heap)
    (sym (ap (λ (b : Basis). b.heap) c.in_ok-found.ensures.found.basis)) (same_shape c.settle.ensures)

pub commit-requires-clause-cards : goal.commit-requires-clause-cards
commit-requires-clause-cards g c =
    same_cards c.settle.ensures (ready_with_free c.take.ensures.same c.requires.ready).cards_sound

pub returns-clause-collected : goal.returns-clause-collected
returns-clause-collected g c =
    collected_with_free c.take.ensures.same
    (collected (ready_with_free c.take.ensures.same c.requires.ready) c.in_ok-found.ensures.found
    c.report-report.ensures
    (record {
      middle = c.settle.new.heap;
      unregisters = c.settle.ensures;
      commits = c.commit.ensures.commits;
      rows = c.relocate_rows.ensures.rows;
      table = c.relocate_rows.ensures.table;
      queue = c.relocate.ensures;
      named = c.relocate_roots.ensures;
      aged = c.grow_all.ensures;
      steps = c.relocate_rows.ensures.steps;
    })
    (omega (arith, c.len-joined.ensures.value)) c.args.steps.now c.in_ok-found.ensures.steps)

pub returns-clause-regions : goal.returns-clause-regions
returns-clause-regions g c =
    holds_regions c.take.ensures.same c.in_ok-plan.ensures.needed c.settle.ensures.same
    c.commit.ensures.commits.number
