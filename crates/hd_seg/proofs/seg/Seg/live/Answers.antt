use Rattle.hd_seg.proofs.RowVectors.{sound_table}
use Rattle.hd_seg.proofs.seg.Seg.live.Goals as goal

pub returns-clause-table : goal.returns-clause-table
returns-clause-table c = sound_table c.self.invariant c.self.view_is
