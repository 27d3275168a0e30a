use Rattle.hd_run.proofs.Basics.{Took, WriteBrokeOff, arith, err_from_is_err_and, subst, ◌∙◌}
use Rattle.hd_run.proofs.RootLines.{took_root, broke_at_root}
use Rattle.hd_run.proofs.root_list.write_roots.Goals as goal

pub returns-in_err-write_all : goal.returns-in_err-write_all
returns-in_err-write_all g c =
    let old = g.K.Sink.seen c.args.sink.now in
    let before = g.K.Sink.seen c.loop-root.sink in
    let new = g.K.Sink.seen c.write_all.new.sink in
    let its_line = c.as_bytes.ensures ∙ c.root_line.ensures in
    let failed = err_from_is_err_and c.from_residual.result c.from_residual.ensures.1 in
    rw failed.1 (broke_at_root c.args.roots.now c.loop-root.root-index _ (omega arith) old before new
    c.loop-root.invariant (subst (WriteBrokeOff before new) its_line c.in_err-write_all.ensures.broke_off))

pub loop-root-preserved : goal.loop-root-preserved
loop-root-preserved g c =
    let old = g.K.Sink.seen c.args.sink.now in
    let before = g.K.Sink.seen c.loop-root.sink in
    let new = g.K.Sink.seen c.write_all.new.sink in
    let its_line = c.as_bytes.ensures ∙ c.root_line.ensures in
    took_root c.args.roots.now c.loop-root.root-index _ (omega arith) old before new c.loop-root.invariant
    (subst (Took before new) its_line c.in_ok-write_all.ensures.all)
