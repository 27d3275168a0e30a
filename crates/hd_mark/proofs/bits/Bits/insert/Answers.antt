use Rattle.hd_mark.proofs.MarkBits.{set_here, set_elsewhere}
use Rattle.hd_mark.proofs.bits.Bits.insert.Goals as goal

pub returns-clause-joins : goal.returns-clause-joins
returns-clause-joins c =
    set_here c.args.self.now.words.items c.args.i _ _ c.requires c.index-word.ensures c.bit.ensures.value

pub returns-clause-others : goal.returns-clause-others
returns-clause-others c =
    set_elsewhere c.args.self.now.words.items c.args.i _ _ c.requires c.index-word.ensures c.bit.ensures.value
