use Rattle.hd_model.proofs.AnchorLaws.{unrooted_objects_go}
use Rattle.hd_laws.proofs.anchor_laws.unrooted_objects_go.Goals as goal

pub returns : goal.returns
returns c = unrooted_objects_go
