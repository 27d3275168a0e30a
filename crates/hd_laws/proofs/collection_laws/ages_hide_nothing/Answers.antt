use Rattle.hd_laws.proofs.DueMarks.{ages_hide_nothing}
use Rattle.hd_laws.proofs.collection_laws.ages_hide_nothing.Goals as goal

pub returns : goal.returns
returns c = ages_hide_nothing
