use Rattle.hd_show.proofs.ShownHandles.{handles_have_one_line}
use Rattle.hd_show.proofs.laws.handles_have_one_line.Goals as goal

pub returns : goal.returns
returns c = handles_have_one_line
