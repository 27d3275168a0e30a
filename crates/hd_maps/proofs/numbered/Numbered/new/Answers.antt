use Rattle.hd_maps.proofs.NumberedMaps.{none_seen}
use Rattle.hd_maps.proofs.numbered.Numbered.new.Goals as goal

pub returns : goal.returns
returns g c = none_seen c.new.result.entries c.new.ensures.empty
