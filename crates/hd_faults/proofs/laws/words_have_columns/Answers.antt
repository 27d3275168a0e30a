use Rattle.hd_faults.proofs.PlacedWords.{words_have_columns}
use Rattle.hd_faults.proofs.laws.words_have_columns.Goals as goal

pub returns : goal.returns
returns c = words_have_columns
