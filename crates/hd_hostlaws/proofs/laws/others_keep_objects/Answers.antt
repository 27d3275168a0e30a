use Rattle.hd_host.proofs.SoundTurns.{others_keep_objects}
use Rattle.hd_hostlaws.proofs.laws.others_keep_objects.Goals as goal

pub returns : goal.returns
returns c = others_keep_objects
