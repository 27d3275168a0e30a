use Rattle.hd_ages.proofs.Basics.{All-set, IsWord, arith, length-set, ◌-◌}
use Rattle.hd_ages.proofs.BlockAges.{word_index, word_written}
use Rattle.hd_ages.proofs.YoungBlocks.{noted}
use Rattle.hd_ages.proofs.YoungestAge.{set_from}
use Rattle.hd_ages.proofs.age_map.AgeMap.set_word.Goals as goal

pub index_mut-requires : goal.index_mut-requires
index_mut-requires c =
    omega (arith, word_index _ _ c.self.view_is _ c.requires.low c.requires.high, c.self.inside.words.ok.0)

pub note-requires : goal.note-requires
note-requires c =
    let at = word_index _ _ c.self.view_is _ c.requires.low c.requires.high in
    omega (arith, at, c.self.invariant.4.room)

pub note-requires-2 : goal.note-requires-2
note-requires-2 c =
    let at = word_index _ _ c.self.view_is _ c.requires.low c.requires.high in
    omega (arith, at, c.self.invariant.5.room)

pub invariant_of-self : goal.invariant_of-self
invariant_of-self c =
    let at = word_index _ _ c.self.view_is _ c.requires.low c.requires.high in (
      omega (arith, length-set c.self.inside.words.items (c.args.block - 1) c.args.word, c.self.invariant.0),
      All-set IsWord c.self.inside.words.items (c.args.block - 1) c.args.word c.requires.word c.self.invariant.1,
      omega (arith, c.min-self-inside.ensures, c.self.invariant.2),
      set_from c.self.inside.youngest c.youngest-least.result c.min-self-inside.result c.args.word
          c.self.inside.words.items (c.args.block - 1) at
          (omega (arith, c.min-self-inside.ensures)) (omega (arith, c.min-self-inside.ensures)) c.self.invariant.3
          c.youngest-least.ensures.least,
      noted c.self.invariant.4 c.args.block c.args.word c.requires.low (omega (arith, at))
          _ c.youngest-least.ensures.least c.note.ensures.young c.note.ensures.old (omega arith),
      noted c.self.invariant.5 c.args.block c.args.word c.requires.low (omega (arith, at))
          _ c.youngest-least.ensures.least c.note-2.ensures.young c.note-2.ensures.old (omega arith),
    )

pub returns : goal.returns
returns c = word_written _ _ c.self.view_is _ c.requires.low c.requires.high c.args.word
