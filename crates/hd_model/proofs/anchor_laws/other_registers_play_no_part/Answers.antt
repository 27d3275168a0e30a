use Rattle.hd_model.proofs.RootChains.{other_registers_play_no_part}
use Rattle.hd_model.proofs.anchor_laws.other_registers_play_no_part.Goals as goal

pub returns : goal.returns
returns c = other_registers_play_no_part
