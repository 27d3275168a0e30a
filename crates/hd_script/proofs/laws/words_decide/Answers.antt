use Rattle.hd_script.proofs.BlankLines as laws
use Rattle.hd_script.proofs.laws.words_decide.Goals as goal

pub returns : goal.returns
returns c = laws.words_decide
