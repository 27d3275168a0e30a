use Rattle.hd_audit.proofs.AddressCells.{BeginsBelow, cells_at}
use Rattle.hd_maps.proofs.AddressIds.{Gathers}
use Rattle.hd_audit.proofs.before.Before.pinned_cells.Given as goal

abbrev pub invariant-loop-id : goal.invariant-loop-id
invariant-loop-id l = Gathers BeginsBelow (cells_at l.self.state l.id-items) l.id-index l.cells.items
