use Rattle.hd_custody.proofs.Basics.{Made, to_look}
use Rattle.hd_custody.proofs.types.Custody.search.Given as goal

abbrev pub invariant-loop-block : goal.invariant-loop-block
invariant-loop-block g l = Made l.kind l.self.blocks (to_look l.self.blocks 1) (to_look l.self.blocks l.block)
    l.fn.caller.view.held l.fn.caller l.caller
