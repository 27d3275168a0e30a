use Rattle.hd_custody.proofs.Basics.{arith}
use Rattle.hd_custody.proofs.{LeaveSteps.enter_steps, WordSteps.same_table}
use Rattle.hd_custody.proofs.types.Custody.win.Goals as goal

pub swap-requires : goal.swap-requires
swap-requires g c = (
  same_table c.caller.view_is c.requires.seat c.self.view_is,
  omega (arith, c.self.invariant.0),
  enter_steps _ _ _ _ _ _ c.caller.invariant,
)
