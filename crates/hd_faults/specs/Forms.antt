-- What a command takes.
use Rattle.std.specs.Prelude.{ℕ, List}
use Rattle.hd_model.specs.declared.operand.Operand.{Operand}

-- at least so many operands, and at most these
pub record Takes : Type 0 where
  pub least : ℕ
  pub operands : List Operand
