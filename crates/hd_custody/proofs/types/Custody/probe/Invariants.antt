use Rattle.hd_custody.proofs.Basics.{Made, calling, probe, to_probe}
use Rattle.hd_custody.proofs.types.Custody.probe.Given as goal

abbrev pub invariant-loop-n : goal.invariant-loop-n
invariant-loop-n g l = Made l.kind l.self.blocks (probe 0) (to_probe l.self.blocks l.n) l.fn.caller.view.held
    (calling l.fn.caller) l.caller
