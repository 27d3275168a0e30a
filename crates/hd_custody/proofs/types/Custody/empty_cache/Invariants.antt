use Rattle.hd_custody.proofs.Basics.{Made, calling, sweep, to_sweep}
use Rattle.hd_custody.proofs.types.Custody.empty_cache.Given as goal

abbrev pub invariant-loop-n : goal.invariant-loop-n
invariant-loop-n g l = Made l.kind l.self.blocks (sweep 0) (to_sweep l.self.blocks l.n) l.fn.caller.view.held
    (calling l.fn.caller) l.caller
