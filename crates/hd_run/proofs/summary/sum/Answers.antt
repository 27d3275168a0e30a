use Rattle.hd_run.proofs.Basics.{Entry, arith, length, value_returned, ◌<◌}
use Rattle.hd_run.proofs.JournalSums.{sum_more, sum_fits}
use Rattle.hd_run.proofs.summary.sum.Goals as goal

pub overflow_add-sum : goal.overflow_add-sum
overflow_add-sum c =
    let within : c.loop-i.i < length c.args.journal.now.entries =
    omega (arith, c.loop-i-test.true, c.len-i-end.ensures.value) in
    let fits = sum_fits (λ (e : Entry). value_returned e.reply) c.args.journal.now.entries c.loop-i.i
    c.entry.result within c.entry.ensures in
    omega (arith, fits, c.loop-i.invariant, c.value_returned-sum.ensures, c.requires)

pub loop-i-preserved : goal.loop-i-preserved
loop-i-preserved c =
    let within : c.loop-i.i < length c.args.journal.now.entries =
    omega (arith, c.loop-i-test.true, c.len-i-end.ensures.value) in
    let more = sum_more (λ (e : Entry). value_returned e.reply) c.args.journal.now.entries c.loop-i.i
    c.entry.result within c.entry.ensures in
    omega (arith, more, c.loop-i.invariant, c.value_returned-sum.ensures)
