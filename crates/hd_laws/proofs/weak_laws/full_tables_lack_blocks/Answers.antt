use Rattle.hd_model.proofs.EntryRoom.{full_tables_lack_blocks}
use Rattle.hd_laws.proofs.weak_laws.full_tables_lack_blocks.Goals as goal

pub returns : goal.returns
returns c = full_tables_lack_blocks
