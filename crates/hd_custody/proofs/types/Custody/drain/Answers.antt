use Rattle.hd_custody.proofs.Basics.{arith}
use Rattle.hd_custody.proofs.WordSteps.{drain_steps, same_table}
use Rattle.hd_custody.proofs.types.Custody.drain.Goals as goal

pub swap-requires : goal.swap-requires
swap-requires g c = (
  same_table c.caller.view_is c.requires.seat c.self.view_is,
  omega (arith, c.self.invariant.0, c.requires.block, c.mask_word.ensures),
  drain_steps _ _ _ _ _ _ c.caller.invariant c.mask_word.result
      (omega (arith, c.requires.block, c.mask_word.ensures))
      (omega (arith, c.requires.block, c.mask_word.ensures)),
)
