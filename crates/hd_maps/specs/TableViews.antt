-- What contracts see of the table: the handles by slot, and the use of each block that has one.
use Rattle.std.specs.Prelude.{◌≡◌, ℕ, refl, None, ◌+◌, ◌<◌, ◌≤◌, ◌*◌, IsSome}
use Rattle.std.specs.Coded.{Coded, code_by, coded×, coded_ℕ}
use Rattle.std.specs.FinMap as finmap
use Rattle.std.specs.FinMap.{FinMap, get}
use Rattle.std.specs.Ordering.{nat_cmp}
use Rattle.hd_model.specs.declared.data.Id.{Id}
use Rattle.hd_model.specs.State.{Handle, BlockUse}
use Rattle.hd_model.specs.Code.{id_code, handle_code, use_code}
use Rattle.hd_model.specs.declared.limits.TheConstants.{ROWS}
use Rattle.hd_model.specs.declared.handle.Handle.{Handle as CommandHandle}

-- the handles by slot, and the use of each block that has one
pub record TableView : Type 0 where
  pub blocks : ℕ
  pub handles : FinMap nat_cmp (Handle Id)
  pub uses : FinMap nat_cmp BlockUse

abbrev pub table_view_code : Coded TableView
table_view_code =
    code_by (ℕ × (FinMap nat_cmp (Handle Id) × FinMap nat_cmp BlockUse))
    (coded× coded_ℕ (coded× (finmap.code coded_ℕ (handle_code id_code)) (finmap.code coded_ℕ use_code)))
    (λ t. (t.blocks, (t.handles, t.uses))) (λ p. record { blocks = p.0; handles = p.1.0; uses = p.1.1 })
    (λ _. refl)

-- a handle, whose objects are referenced by identity
abbrev pub Row : Type 0
Row = CommandHandle Id

-- the number of slots of a number of blocks. Block 0 is never used.
abbrev pub slots_of : ℕ → ℕ
slots_of blocks = ROWS * (blocks + 1)

-- the least block from a number on that has no use
pub record IsLeast (t : TableView) (from block : ℕ) : Type 0 where
  pub unused : get t.uses block ≡ None
  pub low : from ≤ block
  pub high : block ≤ t.blocks
  pub least : (other : ℕ) → from ≤ other → other < block → IsSome (get t.uses other)
