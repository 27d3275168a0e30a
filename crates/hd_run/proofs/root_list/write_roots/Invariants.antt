use Rattle.hd_run.proofs.Basics.{Took, flat_map, root_text, take}
use Rattle.hd_run.proofs.root_list.write_roots.Given as goal

-- the lines so far are written
abbrev pub invariant-loop-root : goal.invariant-loop-root
invariant-loop-root g l =
    let seen = g.K.Sink.seen in
    Took (seen l.fn.sink) (seen l.sink) (flat_map root_text (take l.root-index l.roots))
