use Rattle.hd_script.proofs.Basics.{arith}
use Rattle.hd_script.proofs.CallerLists.{counted_more, counted_fits}
use Rattle.hd_script.proofs.scripts.count.Goals as goal

pub overflow_cast-total : goal.overflow_cast-total
overflow_cast-total c =
    let known =
    counted_fits c.args.lists.now c.loop-list.list-index c.list-item.result (omega arith) c.list-item.is in
    omega (arith, known, c.requires.total)

pub overflow_add-total : goal.overflow_add-total
overflow_add-total c =
    let known =
    counted_fits c.args.lists.now c.loop-list.list-index c.list-item.result (omega arith) c.list-item.is in
    omega (arith, known, c.requires.total, c.loop-list.invariant)

pub loop-list-preserved : goal.loop-list-preserved
loop-list-preserved c =
    let known =
    counted_more c.args.lists.now c.loop-list.list-index c.list-item.result (omega arith) c.list-item.is in
    omega (arith, known, c.loop-list.invariant)
