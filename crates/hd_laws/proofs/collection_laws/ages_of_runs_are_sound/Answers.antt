use Rattle.hd_model.proofs.AgedRuns.{ages_of_runs_are_sound}
use Rattle.hd_laws.proofs.collection_laws.ages_of_runs_are_sound.Goals as goal

pub returns : goal.returns
returns c = ages_of_runs_are_sound
