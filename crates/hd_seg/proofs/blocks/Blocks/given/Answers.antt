use Rattle.hd_seg.proofs.Basics.{IsTable, Uses, subst}
use Rattle.hd_seg.proofs.ChainLinks.{is_table}
use Rattle.hd_seg.proofs.blocks.Blocks.given.Goals as goal

pub returns-clause-table : goal.returns-clause-table
returns-clause-table c = subst (λ (u : Uses). IsTable u.table) c.self.view_is (is_table c.self.invariant.0)
