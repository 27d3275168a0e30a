use Rattle.hd_custody.proofs.Basics.{Banked}
use Rattle.hd_custody.proofs.types.Custody.fill_cells.Given as goal

abbrev pub invariant-loop-i : goal.invariant-loop-i
invariant-loop-i g l = Banked l.kind l.self.blocks l.block (0, l.mask) (l.i, l.left) l.fn.caller l.caller
