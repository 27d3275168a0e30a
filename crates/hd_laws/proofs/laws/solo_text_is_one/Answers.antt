use Rattle.hd_model.proofs.SoloRuns.{solo_text_is_one}
use Rattle.hd_laws.proofs.laws.solo_text_is_one.Goals as goal

pub returns : goal.returns
returns c = solo_text_is_one
