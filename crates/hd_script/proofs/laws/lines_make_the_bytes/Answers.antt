use Rattle.hd_script.proofs.LineBytes as laws
use Rattle.hd_script.proofs.laws.lines_make_the_bytes.Goals as goal

pub returns : goal.returns
returns c = laws.lines_make_the_bytes
