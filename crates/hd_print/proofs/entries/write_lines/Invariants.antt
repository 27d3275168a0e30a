use Rattle.hd_print.proofs.Basics.{CALLERS, Entry, Took, count_by, get_or, take, ℕ, ◌<◌, ◌==◌, ◌≡◌}
use Rattle.hd_print.specs.EntryLines.{lines_by}
use Rattle.hd_print.proofs.entries.write_lines.Given as goal

-- the lines so far are those of the entries so far, which are counted by caller
abbrev pub invariant-loop-i : goal.invariant-loop-i
invariant-loop-i g l =
    let seen = g.K.Sink.seen in
    let done = take l.i l.journal.entries in
    record {
      lines : Took (seen l.fn.sink) (seen l.sink) (lines_by l.form done);
      counts : (c : ℕ) → c < CALLERS → get_or l.counts c 0 ≡ count_by (λ (e : Entry). e.caller == c) done;
    }
