use Rattle.hd_ages.proofs.Basics.{◌∙◌}
use Rattle.hd_ages.proofs.BlockAges.{lowered_at, unlowered_at}
use Rattle.hd_ages.proofs.age_map.AgeMap.lower.Goals as goal

pub returns-then-word-before : goal.returns-then-word-before
returns-then-word-before c slot of =
    c.set_word.ensures
    ∙ lowered_at c.word-before.result c.lower-word.result c.args.block c.args.clump slot c.args.g c.args.self.now
    c.word-before.ensures.ages c.lower-word.ensures.ages c.requires.low c.requires.high c.requires.clump of

pub returns-else-word-before : goal.returns-else-word-before
returns-else-word-before c slot of =
    unlowered_at c.word-before.result c.lower-word.result c.args.block c.args.clump slot c.args.g c.args.self.now
    c.word-before.ensures.ages c.lower-word.ensures.ages c.if-word-before.false c.requires.low c.requires.high
    c.requires.clump of
