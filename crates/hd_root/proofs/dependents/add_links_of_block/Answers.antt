use Rattle.std.proofs.Common.{◌≡◌, ◌+◌, ◌*◌, sym, subst, arith}
use Rattle.hd_model.specs.declared.limits.TheConstants.{ROWS}
use Rattle.hd_root.specs.Inside.{HasGathered}
use Rattle.hd_root.proofs.LinkRows.{gathered_same, gathered_put}
use Rattle.hd_root.proofs.dependents.add_links_of_block.Goals as goal
use Rattle.hd_root.proofs.dependents.add_links_of_block.Goals.{in-Some+in_ok-put, in_default}

pub loop-row-preserved : goal.loop-row-preserved
loop-row-preserved c =
    let t = c.args.seg.now in
    let low = c.args.block * ROWS in
    let next : low + c.loop-row.row + 1 ≡ low + (c.loop-row.row + 1) = omega arith in
    elim c.match-attached.branch [
      | in-Some+in_ok-put w ↦
          subst (λ n. HasGathered t low n c.args.dependents.now c.match-attached.dependents) next
          (subst (λ ls. HasGathered t low (low + c.loop-row.row + 1) c.args.dependents.now ls)
          (sym w.dependents-is)
          (gathered_put t c.live-live.ensures.table (sym w.in-Some.ensures) w.in_ok-put.ensures
          c.loop-row.invariant))
      | in_default w ↦
          subst (λ n. HasGathered t low n c.args.dependents.now c.match-attached.dependents) next
          (subst (λ ls. HasGathered t low (low + c.loop-row.row + 1) c.args.dependents.now ls)
          (sym w.dependents-is)
          (gathered_same t c.live-live.ensures.table (sym w.in_default.ensures) c.loop-row.invariant))
    ]
