use Rattle.hd_run.proofs.StillEnds.{never_fail}
use Rattle.hd_run.proofs.still.still_ends_never_fail.Goals as goal

pub returns : goal.returns
returns c = never_fail
