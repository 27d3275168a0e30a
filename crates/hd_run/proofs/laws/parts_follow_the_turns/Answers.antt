use Rattle.hd_run.proofs.CallerParts.{parts_follow}
use Rattle.hd_run.proofs.laws.parts_follow_the_turns.Goals as goal

pub returns : goal.returns
returns c = parts_follow
