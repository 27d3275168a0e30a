use Rattle.hd_custody.proofs.Basics.{HasRows, arith}
use Rattle.hd_custody.proofs.WordSteps.{put_in_steps, as_seen, same_table}
use Rattle.hd_custody.proofs.types.Custody.fill.Goals as goal

pub fetch_or-requires : goal.fetch_or-requires
fetch_or-requires g c = (
  same_table c.caller.view_is c.requires.seat c.self.view_is,
  omega (arith, c.self.invariant.0, c.requires.block, c.mask_word.ensures),
  put_in_steps _ _ _ _ _ _ c.caller.invariant c.mask_word.result c.args.block c.args.rows c.mask_word.ensures
      c.requires.block (omega (arith, c.ranges.rows.fits))
      (as_seen (HasRows c.args.block c.args.rows) c.caller.view_is c.requires.slots),
)
