-- What private clauses alone cite.
use Rattle.std.specs.Prelude.{ℕ, List, Option, Some, ◌≡◌, ◌+◌, None}
use Rattle.std.specs.Borrow.{Bor}
use Rattle.hd_model.specs.declared.operand.Operand.{Operand}
use Rattle.hd_model.specs.Grammar.{Reading, blank, caller, command}
use Rattle.hd_faults.specs.{declared.forms.Form.Form, Forms.Takes, Faults.IsPlaced, declared.fault.LineFault.LineFault}
use Rattle.hd_faults.specs.declared.fault.Cause.TheVariants as cause

-- the commands up to a line and with it
abbrev pub count_after : ℕ → Option Reading → ℕ
count_after before None = before
count_after before (Some (command c)) = before + 1
count_after before (Some blank) = before
count_after before (Some (caller n)) = before

-- a fault says that a line is one command too many
pub record IsOneTooMany (line : List ℕ) (fault : LineFault) : Type 0 where
  pub cause : fault.cause ≡ cause.TooMany
  pub position : IsPlaced line fault

-- ---- the forms of the code, as those of the definitions

-- what a command takes
abbrev pub seen : Form → Takes
seen form = record { least = form.least; operands = form.operands.now }

-- a row of the code
abbrev pub row_seen : Bor (List ℕ) × ℕ × Bor (List Operand) → List ℕ × Option Takes
row_seen row = (row.0.now, Some (record { least = row.1; operands = row.2.now }))
