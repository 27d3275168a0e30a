use Rattle.hd_hostlaws.proofs.LiveHandles.{spare_blocks_have_none}
use Rattle.hd_hostlaws.proofs.laws.spare_blocks_have_none.Goals as goal

pub returns : goal.returns
returns c = spare_blocks_have_none
