-- What contracts see of a journal.
use Rattle.std.specs.Prelude.{ℕ, List}
use Rattle.hd_model.specs.Data.{Entry}

-- the entries so far, and how many more there is room for
pub record Recorded : Type 0 where
  pub entries : List Entry
  pub spare : ℕ
