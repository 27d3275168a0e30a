use Rattle.hd_script.proofs.LoadLine.{loads_have_their_line}
use Rattle.hd_script.proofs.load.loads_have_their_line.Goals as goal

pub returns : goal.returns
returns c = loads_have_their_line
