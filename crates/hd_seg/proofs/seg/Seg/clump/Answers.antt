use Rattle.hd_seg.proofs.ReadCalls.{clump_bits}
use Rattle.hd_seg.proofs.seg.Seg.clump.Goals as goal

pub returns-clause-bits : goal.returns-clause-bits
returns-clause-bits c i lt =
    clump_bits c.args.self.now c.live_rows.result c.args.block c.args.clump i c.live_rows.ensures.bits
    c.requires.clump lt
