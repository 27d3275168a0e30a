use Rattle.hd_host.proofs.SoundTurns.{turns_keep_sound}
use Rattle.hd_hostlaws.proofs.laws.turns_keep_sound.Goals as goal

pub returns : goal.returns
returns c = turns_keep_sound
