use Rattle.hd_run.proofs.Basics.{List, Output, Writes, memory_text, rules, stopped_text, subst, sym, ℕ, ◌++◌, ◌≡◌}
use Rattle.hd_print.specs.EntryLines.{lines_by}
use Rattle.hd_run.proofs.report.write_stopped.Goals as goal

pub returns-in-Lines : goal.returns-in-Lines
returns-in-Lines g c =
    let text : c.as_bytes.result.now ≡ memory_text = c.as_bytes.ensures.value in
    let old = g.K.Sink.seen c.args.sink.now in
    let new = g.K.Sink.seen c.write_with_last.new.sink in
    let journal = c.args.journal.now.entries in
    subst (λ (o : Output). Writes old new (stopped_text o journal) c.write_with_last.result)
    (sym c.in-Lines.is)
    (subst (λ (t : List ℕ). Writes old new (lines_by c.in-Lines.form journal ++ t) c.write_with_last.result)
    text c.write_with_last.ensures)

pub returns-in-Summary : goal.returns-in-Summary
returns-in-Summary g c =
    let text : c.as_bytes-in-Summary.result.now ≡ memory_text = c.as_bytes-in-Summary.ensures.value in
    let old = g.K.Sink.seen c.args.sink.now in
    let new = g.K.Sink.seen c.write_all.new.sink in
    let wrote : Writes old new c.as_bytes-in-Summary.result.now c.write_all.result = search rules in
    subst (λ (o : Output). Writes old new (stopped_text o c.args.journal.now.entries) c.write_all.result)
    (sym c.in-Summary.is) (subst (λ (t : List ℕ). Writes old new t c.write_all.result) text wrote)
