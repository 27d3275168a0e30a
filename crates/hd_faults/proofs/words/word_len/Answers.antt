use Rattle.std.proofs.Common.{sym}
use Rattle.hd_model.specs.Grammar.{is_blank}
use Rattle.hd_faults.proofs.PlacedWords.{found, missing}
use Rattle.hd_faults.proofs.words.word_len.Goals as goal

pub returns-in-Some-clause-first : goal.returns-in-Some-clause-first
returns-in-Some-clause-first c = found is_blank c.args.bytes.now c.in-Some.len (sym c.in-Some.ensures.first)

pub returns-in-None-clause-first : goal.returns-in-None-clause-first
returns-in-None-clause-first c = missing is_blank c.args.bytes.now (sym c.in-None.ensures.first)
