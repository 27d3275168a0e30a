use Rattle.hd_custody.proofs.Basics.{Made, calling, sweep, to_look_whole}
use Rattle.hd_custody.proofs.types.Custody.collect.Given as goal

abbrev pub invariant-loop-block : goal.invariant-loop-block
invariant-loop-block g l = Made l.kind l.self.blocks (sweep 0) (to_look_whole l.self.blocks l.block)
    l.fn.caller.view.held (calling l.fn.caller) l.caller
