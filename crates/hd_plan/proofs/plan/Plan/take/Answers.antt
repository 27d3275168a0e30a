use Rattle.hd_plan.proofs.Basics.{Heap, IsExtent, arith, subst, sym}
use Rattle.std.proofs.lemmas.Result.{err_from_is_err_and}
use Rattle.hd_plan.proofs.{CondemnedAmounts.extent_free, CondemnedAmounts.free_at_most}
use Rattle.hd_plan.proofs.plan.Plan.take.Goals as goal

pub with_room-requires-clause-found : goal.with_room-requires-clause-found
with_room-requires-clause-found c =
    subst (λ (h : Heap). IsExtent h c.args.n c.extent-found.result) (sym c.reserve_regions.ensures.same)
    (extent_free c.args.heap.now c.args.n c.reserve_regions.new.self.free c.extent-found.result
    c.extent-found.ensures.extent)

pub returns-in_err-reserve_regions-clause-needed : goal.returns-in_err-reserve_regions-clause-needed
returns-in_err-reserve_regions-clause-needed c =
    let failed = err_from_is_err_and c.from_residual.result c.from_residual.ensures.1 in
    rw failed.1 (free_at_most c.args.heap.now c.reserve_regions.new.self c.args.n
    c.extent-found.result c.extent-found.ensures (omega (arith, c.in_err-reserve_regions.ensures.enough)))
