use Rattle.hd_gc.proofs.Basics.{Kind, all_kinds, arith, kept_in, listed_kind, forwarding_in, slice_index_or, sum_by_more, visits_of, visits_same}
use Rattle.hd_gc.proofs.RowRelocation.{can_relocate, moved_more}
use Rattle.hd_model.specs.declared.data.Kind.TheVariants as kind
use Rattle.hd_gc.proofs.moving.relocate_rows.Goals as goal

pub relocate-requires-clause-kept : goal.relocate-requires-clause-kept
relocate-requires-clause-kept g c =
    let i = c.loop-kind.kind-index in
    can_relocate (forwarding_in c.args.plan.now) c.args.ages.now c.args.n c.loop-kind.invariant.moved
    (slice_index_or all_kinds i kind.Short) (listed_kind i kind.Short c.loop-kind-test.true)
    (kept_in c.args.plan.now) c.requires.names

pub loop-kind-preserved : goal.loop-kind-preserved
loop-kind-preserved g c =
    let i = c.loop-kind.kind-index in
    let here : Kind = slice_index_or all_kinds i kind.Short in
    let inv = c.loop-kind.invariant in
    record {
      moved =
          moved_more (forwarding_in c.args.plan.now) c.args.ages.now c.args.n inv.moved here
          (listed_kind i kind.Short c.loop-kind-test.true) c.relocate.ensures.relocates
          c.relocate.ensures.table;
      steps =
          (let known =
          sum_by_more (visits_of c.args.seg.now c.args.ages.now c.args.n) all_kinds i kind.Short
          c.loop-kind-test.true in
          let also =
          visits_same c.args.seg.now c.loop-kind.seg c.args.ages.now c.args.n here inv.moved.table in
          omega (arith, inv.steps, c.relocate.ensures.steps, known, also));
    }
