use Rattle.hd_talk.proofs.AsciiWords.{slot_word_is_text}
use Rattle.hd_talk.proofs.words.slot_in.Goals as goal

pub returns-in-Err : goal.returns-in-Err
returns-in-Err c = λ slot w. c.in-Err.ensures.cases.0 (slot_word_is_text slot c.args.word.now w)
