use Rattle.hd_custody.proofs.Basics.{arith}
use Rattle.hd_custody.proofs.WordSteps.{look_steps, same_table}
use Rattle.hd_custody.proofs.types.Custody.look.Goals as goal

pub load-requires : goal.load-requires
load-requires g c = (
  same_table c.caller.view_is c.requires.seat c.self.view_is,
  omega (arith, c.self.invariant.0, c.requires.block),
  look_steps _ _ _ _ _ _ c.caller.invariant c.args.block c.requires.block,
)
