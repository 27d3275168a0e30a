use Rattle.hd_model.proofs.CollectionLaws.{grown_ages_are_sound}
use Rattle.hd_laws.proofs.collection_laws.grown_ages_are_sound.Goals as goal

pub returns : goal.returns
returns c = grown_ages_are_sound
