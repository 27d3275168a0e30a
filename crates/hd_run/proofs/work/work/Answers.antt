use Rattle.hd_run.proofs.Basics.{Bool, Traits, Worked, subst, sym}
use Rattle.hd_run.proofs.WorkCauses.{listed_worked}
use Rattle.hd_run.proofs.work.work.Goals as goal

pub returns-then-manner : goal.returns-then-manner
returns-then-manner g c =
    let threads = c.traits.result.manner.threads in
    subst (λ (t : Traits). Worked g.S.Source.seen t.manner c.args.request
    (c.args.source.now, c.run_by-ending.new.source) c.list_roots.result) c.traits.ensures
    (subst (λ (b : Bool). Worked g.S.Source.seen (record { threads = threads; lists_roots = b }) c.args.request
    (c.args.source.now, c.run_by-ending.new.source) c.list_roots.result) (sym c.if-manner.true)
    (listed_worked g.S.Source.seen c.args.request (c.args.source.now, c.run_by-ending.new.source) threads
    c.run_by-ending.result c.list_roots.result c.run_by-ending.ensures c.list_roots.ensures))
