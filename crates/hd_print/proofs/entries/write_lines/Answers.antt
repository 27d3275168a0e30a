use Rattle.hd_print.proofs.Basics.{arith, ◌∙◌}
use Rattle.std.proofs.lemmas.Result.{err_from_is_err_and}
use Rattle.hd_print.specs.EntryLines.{line_by}
use Rattle.hd_print.proofs.JournalLines.{caller_below, count_le, counts_more, took_line, broke_in_line}
use Rattle.hd_print.proofs.entries.write_lines.Goals as goal

pub count_entry-number-requires-clause-known : goal.count_entry-number-requires-clause-known
count_entry-number-requires-clause-known g c =
    caller_below c.args.journal.now.entries c.loop-i.i c.entry-entry.result (omega arith)
    c.entry-entry.ensures c.requires

pub count_entry-number-requires-clause-fits : goal.count_entry-number-requires-clause-fits
count_entry-number-requires-clause-fits g c =
    let loop = c.loop-i in
    let le = count_le c.args.journal.now.entries loop.i c.entry-entry.result (omega arith)
    c.entry-entry.ensures c.requires loop.counts loop.invariant.counts in
    omega arith

pub returns-in_err-write_all-clause-broke_off : goal.returns-in_err-write_all-clause-broke_off
returns-in_err-write_all-clause-broke_off g c =
    let loop = c.loop-i in
    let number = c.count_entry-number in
    let its_line = c.as_bytes.ensures ∙ c.set_line.ensures in
    let failed = err_from_is_err_and c.from_residual.result c.from_residual.ensures.1 in
    rw failed.1 (broke_in_line c.args.journal.now.entries loop.i c.entry-entry.result (omega arith)
    c.entry-entry.ensures c.requires loop.counts loop.invariant.counts number.result number.ensures.number
    (line_by c.args.form) _ _ _ c.as_bytes.result.now loop.invariant.lines its_line
    c.in_err-write_all.ensures.broke_off)

pub loop-i-preserved : goal.loop-i-preserved
loop-i-preserved g c =
    let loop = c.loop-i in
    let number = c.count_entry-number in
    let its_line = c.as_bytes.ensures ∙ c.set_line.ensures in record {
      lines = took_line c.args.journal.now.entries loop.i c.entry-entry.result (omega arith)
          c.entry-entry.ensures c.requires loop.counts loop.invariant.counts number.result
          number.ensures.number (line_by c.args.form) _ _ _ c.as_bytes.result.now loop.invariant.lines
          its_line
          c.in_ok-write_all.ensures.all;
      counts = counts_more c.args.journal.now.entries loop.i c.entry-entry.result (omega arith)
          c.entry-entry.ensures c.requires loop.counts loop.invariant.counts number.result
          number.ensures.number number.new.counts number.ensures.counted (omega arith);
    }
