-- The rows of dependent handles by their targets: each has the index of the one before it with its target.
use Rattle.std.specs.Prelude.{◌≡◌, ℕ, List, slice_get, Some}
use Rattle.hd_model.specs.declared.data.Addr.{Addr}
use Rattle.hd_model.specs.Table.{Table, row_at}
use Rattle.hd_model.specs.Reach.{IsAttached}
use Rattle.hd_root.specs.declared.dependents.Link.{Link}

-- a link attaches y to x
pub record Attaches (links : List Link) (x y : Addr) : Type 0 where
  pub index : ℕ
  pub link : Link
  pub is_link : slice_get links index ≡ Some link
  pub target : link.target ≡ x
  pub secondary : link.secondary ≡ y

-- the links of a table
pub record AreLinks (t : Table) (links : List Link) : Type 0 where
  pub only : (x y : Addr) → Attaches links x y → IsAttached (row_at t) x y
  pub all : (x y : Addr) → IsAttached (row_at t) x y → Attaches links x y
