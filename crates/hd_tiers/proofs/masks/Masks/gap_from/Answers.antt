use Rattle.hd_tiers.proofs.Basics.{BITS, arith, ◌*◌, ◌+◌, ◌/◌}
use Rattle.hd_tiers.proofs.MaskGaps.{further_gap}
use Rattle.hd_tiers.proofs.masks.Masks.gap_from.Goals as goal

pub returns-in-None : goal.returns-in-None
returns-in-None c =
    further_gap c.args.self.now.members c.args.from (BITS * (c.args.from / BITS + 1)) c.gap_beyond.result
    (omega arith) c.in-None.ensures.none c.gap_beyond.ensures
