use Rattle.hd_script.proofs.CallerLines as laws
use Rattle.hd_script.proofs.laws.lists_follow_the_lines.Goals as goal

pub returns : goal.returns
returns c = laws.lists_follow_the_lines
