use Rattle.hd_model.proofs.AnchorLaws.{rooted_objects_stay}
use Rattle.hd_laws.proofs.anchor_laws.rooted_objects_stay.Goals as goal

pub returns : goal.returns
returns c = rooted_objects_stay
