use Rattle.std.proofs.Common.{sym}
use Rattle.hd_model.specs.Grammar.{is_hash}
use Rattle.hd_faults.proofs.PlacedWords.{found, missing}
use Rattle.hd_faults.proofs.words.comment_start.Goals as goal

pub returns-in-Some-clause-first : goal.returns-in-Some-clause-first
returns-in-Some-clause-first c = found is_hash c.args.line.now c.in-Some.start (sym c.in-Some.ensures.first)

pub returns-in-None-clause-first : goal.returns-in-None-clause-first
returns-in-None-clause-first c = missing is_hash c.args.line.now (sym c.in-None.ensures.first)
