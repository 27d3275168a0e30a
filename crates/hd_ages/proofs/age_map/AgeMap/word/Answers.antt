use Rattle.hd_ages.proofs.Basics.{IsWord, ages_in, ap, arith, get_or, get_or_read, subst, sym, ◌-◌, ◌∙◌, ◌≡◌}
use Rattle.hd_ages.proofs.BlockAges.{word_index, word_ages}
use Rattle.hd_ages.proofs.age_map.AgeMap.word.Goals.{After-row_known-1}
use Rattle.hd_ages.proofs.age_map.AgeMap.word.Goals as goal

pub index-requires : goal.index-requires
index-requires c =
    omega (arith, word_index _ _ c.self.view_is _ c.requires.low c.requires.high, c.self.inside.words.ok.0)

-- the word that is read
read : (c : After-row_known-1) → c.index.result.now ≡ get_or c.self.inside.words.items (c.args.block - 1) 0
read c =
    get_or_read c.self.inside.words.items (c.args.block - 1) c.index.result.now
    (word_index _ _ c.self.view_is _ c.requires.low c.requires.high) c.index.ensures 0

pub returns-clause-word : goal.returns-clause-word
returns-clause-word c =
    subst IsWord (sym (read c))
    (c.self.invariant.1 (c.args.block - 1) 0
    (word_index _ _ c.self.view_is _ c.requires.low c.requires.high))

pub returns-clause-ages : goal.returns-clause-ages
returns-clause-ages c =
    ap ages_in (read c) ∙ word_ages _ _ c.self.view_is _ c.requires.low c.requires.high
