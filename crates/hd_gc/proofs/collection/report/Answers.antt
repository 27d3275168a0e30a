use Rattle.hd_gc.proofs.Basics.{generation_at, kept_in, lt-ltb, objects_of, or_left, refl}
use Rattle.hd_gc.proofs.ReportCounts.{kept_few, removed_rest}
use Rattle.hd_gc.proofs.collection.report.Goals as goal

pub overflow_sub-result : goal.overflow_sub-result
overflow_sub-result c =
    kept_few c.args.plan.now.basis.heap c.args.plan.now.basis.condemned c.extent.result c.extent.ensures
    (kept_in c.args.plan.now) c.args.found.kept c.requires.kept

pub returns : goal.returns
returns c =
    let b = c.args.plan.now.basis in
    record {
      kept = c.requires.kept;
      removed = removed_rest b.heap b.condemned c.extent.result c.extent.ensures (kept_in c.args.plan.now)
          c.args.found.kept c.requires.kept
          (λ a older. or_left _ _ (lt-ltb b.condemned (generation_at (objects_of b) a) older));
      short = refl;
      long = refl;
      dep = refl;
      resurrected = refl;
    }
