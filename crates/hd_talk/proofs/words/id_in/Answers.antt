use Rattle.hd_talk.proofs.AsciiWords.{identity_is_text}
use Rattle.hd_talk.proofs.words.id_in.Goals as goal

pub returns-in-Err : goal.returns-in-Err
returns-in-Err c = λ x w. c.in-Err.ensures.cases.0 (identity_is_text x c.args.word.now w)
