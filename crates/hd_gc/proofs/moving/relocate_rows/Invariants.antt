use Rattle.hd_gc.proofs.Basics.{all_kinds, forwarding_in, take, visits_over, ◌+◌, ◌≡◌}
use Rattle.hd_gc.proofs.RowRelocation.{IsRelocating}
use Rattle.hd_gc.proofs.moving.relocate_rows.Given as goal

abbrev pub invariant-loop-kind : goal.invariant-loop-kind
invariant-loop-kind g l = record {
  moved : IsRelocating (forwarding_in l.plan) l.ages l.n l.kind-index l.fn.seg l.seg;
  steps : l.steps ≡ l.fn.steps + visits_over l.fn.seg l.ages l.n (take l.kind-index all_kinds);
}
