-- A table in which one row is replaced.
use Rattle.std.specs.Prelude.{◌≡◌, ◌≢◌, ℕ, Some}
use Rattle.hd_model.specs.declared.data.Addr.{Addr}
use Rattle.hd_model.specs.State.{Handle}
use Rattle.hd_model.specs.Table.{Table, row_at}
use Rattle.hd_model.specs.Visits.{IsSameTable}

-- the table with another handle in a live slot, of the same kind
pub record Rewrites (slot : ℕ) (h : Handle Addr) (old new : Table) : Type 0 where
  pub at : row_at new slot ≡ Some h
  pub others : (other : ℕ) → other ≢ slot → row_at new other ≡ row_at old other
  pub table : IsSameTable old new
