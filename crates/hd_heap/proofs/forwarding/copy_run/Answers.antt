use Rattle.hd_heap.proofs.Basics.{Contents, ap, arith, sym, ◌-◌, ◌∙◌}
use Rattle.hd_heap.proofs.RunCopies.{run_one, run_more, run_fill, put_first, put_next}
use Rattle.hd_heap.proofs.forwarding.copy_run.Goals as goal

pub copy_forwarded-requires-clause-kept : goal.copy_forwarded-requires-clause-kept
copy_forwarded-requires-clause-kept g c =
    c.requires.run.fields c.args.first (run_one c.args.moves.now c.args.first c.requires.run.within)

pub loop-region-init : goal.loop-region-init
loop-region-init g c =
    put_first (g.F.Forward.forwarding c.args.forward.now) c.args.source.now c.args.moves.now c.args.first
    c.requires.run.within c.copy_forwarded.ensures.put c.copy_forwarded.ensures.laid_out

pub copy_forwarded-requires-in-loop-region : goal.copy_forwarded-requires-in-loop-region
copy_forwarded-requires-in-loop-region g c =
    let may = c.requires.run in
    let k = c.loop-region.k in
    let run = run_more c.args.moves.now c.args.first k c.loop-region.invariant.run
    (sym c.goes_with.ensures ∙ c.loop-region-test.true) in
    record {
      object = may.objects k run;
      room = omega (
        arith,
        may.room k run,
        ap (λ (r : Contents). r.fill) c.loop-region.invariant.is,
        run_fill (g.F.Forward.forwarding c.args.forward.now) c.args.source.now c.args.moves.now c.args.first
            (k - c.args.first) c.args.region.now,
      );
      laid = c.requires.laid;
      kept = may.fields k run;
    }

pub loop-region-preserved : goal.loop-region-preserved
loop-region-preserved g c =
    let so_far = c.loop-region.invariant in
    let some = so_far.run.some in
    put_next (g.F.Forward.forwarding c.args.forward.now) c.args.source.now c.args.moves.now c.args.first (omega arith)
    (run_more c.args.moves.now c.args.first c.loop-region.k so_far.run
    (sym c.goes_with.ensures ∙ c.loop-region-test.true)) so_far.is so_far.laid_out
    c.copy_forwarded-in-loop-region.ensures.put c.copy_forwarded-in-loop-region.ensures.laid_out
