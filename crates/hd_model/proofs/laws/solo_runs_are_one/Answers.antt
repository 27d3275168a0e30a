use Rattle.hd_model.proofs.SoloRuns.{solo_runs_are_one}
use Rattle.hd_model.proofs.laws.solo_runs_are_one.Goals as goal

pub returns : goal.returns
returns c = solo_runs_are_one
