use Rattle.hd_run.proofs.Basics.{CALLERS, Lines, arith, in_threads, length, numbers_for, ◌≤◌}
use Rattle.hd_print.specs.EntryLines.{form_of}
use Rattle.hd_run.proofs.{RunEndings.lines_writable, ThreadClaims.together}
use Rattle.hd_run.proofs.run.Goals as goal

pub report-requires : goal.report-requires
report-requires g c =
    let few : length c.args.scripts.now ≤ CALLERS = omega (
      arith,
      c.callers-callers.ensures.most,
      c.callers-callers.ensures.value,
    ) in
    rw c.of.ensures (lines_writable in_threads (form_of c.args.full)
    (numbers_for c.new.result c.args.scripts.now)
    c.args.scripts.now c.run_callers-ending.result c.run_callers-ending.ensures few)

pub returns : goal.returns
returns g c =
    together g.K.Sink.seen (Lines (form_of c.args.full))
    (numbers_for (record { heap = c.args.heap; blocks = c.args.blocks }) c.args.scripts.now)
    c.args.scripts.now c.args.sink.now c.report.new.sink c.run_callers-ending.result c.report.result
    (rw c.new.ensures at c.run_callers-ending.ensures) (rw c.of.ensures at c.report.ensures)
