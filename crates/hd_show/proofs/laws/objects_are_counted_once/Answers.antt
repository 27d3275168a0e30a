use Rattle.hd_show.proofs.ObjectSums.{objects_are_counted_once}
use Rattle.hd_show.proofs.laws.objects_are_counted_once.Goals as goal

pub returns : goal.returns
returns c = objects_are_counted_once
