use Rattle.hd_model.proofs.RootChains.{dropped_objects_go}
use Rattle.hd_laws.proofs.anchor_laws.dropped_objects_go.Goals as goal

pub returns : goal.returns
returns c = dropped_objects_go
