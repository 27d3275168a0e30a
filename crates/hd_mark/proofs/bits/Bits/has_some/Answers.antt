use Rattle.hd_mark.proofs.Basics.{WORDS, eqb-true, ◌*◌}
use Rattle.hd_mark.proofs.MarkBits.{all_unset, four_zero, unnegated}
use Rattle.hd_mark.proofs.bits.Bits.has_some.Goals as goal

pub returns : goal.returns
returns c is =
    all_unset c.args.self.now.words.items c.args.index
    (four_zero c.args.self.now.words.items (WORDS * c.args.index) c.word-a.result c.word-b.result c.word-c.result
    c.word-d.result c.word-a.ensures c.word-b.ensures c.word-c.ensures c.word-d.ensures
    (eqb-true _ _ (unnegated _ is)))
