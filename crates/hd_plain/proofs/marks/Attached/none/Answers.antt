use Rattle.hd_plain.proofs.AttachedLists.{none_listed}
use Rattle.hd_plain.proofs.marks.Attached.none.Goals as goal

pub returns : goal.returns
returns c = none_listed c.new.result c.new.ensures
