use Rattle.hd_plan.proofs.Basics.{Heap, IsExtent, REGION, ap, arith, length, subst, sym, vec_capacity, ◌*◌, ◌<◌, ◌∙◌, ◌≡◌, ◌≤◌}
use Rattle.std.proofs.Common.{rules}
use Rattle.std.proofs.lemmas.List.{length-replicate}
use Rattle.hd_plan.proofs.{CondemnedAmounts.extent_room, RegionList.forwards_none}
use Rattle.hd_plan.proofs.plan.Plan.with_room.Goals as goal

pub invariant_of-result : goal.invariant_of-result
invariant_of-result c =
    let found = c.args.found in
    let small : found.regions < 4294967296 = search rules in
    let objects : found.objects ≤ vec_capacity c.in-Ok.moves = omega (arith, c.in-Ok.ensures.capacity) in
    let regions : found.regions ≤ vec_capacity c.in-Ok-with_capacity.regions =
    omega (arith, c.in-Ok-with_capacity.ensures.capacity) in
    let firsts : length c.in_ok-forwards.forwards.firsts.items ≡ found.end =
    ap length c.in_ok-forwards.ensures.firsts ∙ length-replicate found.end 0 in
    let cells : REGION * found.regions ≤ length c.in_ok-forwards.forwards.cells.items =
    omega (arith, c.in_ok-forwards.ensures.cells) in
    record {
      extent = subst (λ (h : Heap). IsExtent h c.args.n found) (sym c.of.ensures) c.requires.found;
      room = rw c.of.ensures (extent_room _ _ _ _ c.requires.found small objects regions (omega (arith, firsts))
          cells);
      forwards = rw (c.in-Ok.ensures.items, c.in-Ok-with_capacity.ensures.items)
          (forwards_none found.end _ _ c.in_ok-forwards.ensures.firsts);
    }
