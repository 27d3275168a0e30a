-- The first fault of a script.
use Rattle.std.specs.Prelude.{◌≡◌, ℕ, ◌-◌, nat_lt, not, Bool, true, false, List, slice_get, Option, Some, None, unwrap_or}
use Rattle.hd_model.specs.declared.limits.TheConstants.{MOST_COMMANDS}
use Rattle.hd_model.specs.Grammar.{Reading, blank, caller, command, first_fault, lines_in, reading_of, readings_of, words_of}
use Rattle.hd_faults.specs.Causes.{cause_of}
use Rattle.hd_faults.specs.Faults.{IsPlaced}
use Rattle.hd_faults.specs.declared.fault.Cause.TheVariants as cause
use Rattle.hd_faults.specs.declared.fault.LineFault.{LineFault}

-- a line is at fault where so many commands come before it
abbrev pub is_at_fault : ℕ → Option Reading → Bool
is_at_fault before None = true
is_at_fault before (Some (command c)) = not (nat_lt before MOST_COMMANDS)
is_at_fault before (Some blank) = false
is_at_fault before (Some (caller n)) = false

-- the fault of a line that is at fault: why it has no reading, and where it has one, that it is one command
-- too many
pub record IsLineFault (line : List ℕ) (fault : LineFault) : Type 0 where
  pub cause : fault.cause ≡ unwrap_or (cause_of (words_of line)) cause.TooMany
  pub position : IsPlaced line fault

-- the fault of a line with so many commands before it, if it is at fault
abbrev pub FaultOf : ℕ → List ℕ → Option LineFault → Type 0
FaultOf before line None = is_at_fault before (reading_of (words_of line)) ≡ false
FaultOf before line (Some fault) =
    (is_at_fault before (reading_of (words_of line)) ≡ true) × IsLineFault line fault

-- the number is that of the first line of the script that is at fault, and the fault is that line's
pub record IsFirstFault (bytes : List ℕ) (number : ℕ) (fault : LineFault) : Type 0 where
  pub first : first_fault 1 0 (readings_of bytes) ≡ Some number
  pub line : List ℕ
  pub numbered : slice_get (lines_in bytes) (number - 1) ≡ Some line
  pub is_fault : IsLineFault line fault
