-- The readings of the code, as readings of the grammar.
use Rattle.std.specs.Prelude.{ℕ, ◌<◌, List}
use Rattle.std.specs.Borrow.{Bor}
use Rattle.hd_model.specs.Grammar.{Reading as Said, blank, caller, command}
use Rattle.hd_model.specs.declared.limits.TheConstants.{CALLERS}
use Rattle.hd_model.specs.Valid.{IsValid}
use Rattle.hd_script.specs.declared.reading.Reading.{Reading}
use Rattle.hd_script.specs.declared.reading.Reading.TheVariants.{Blank, Caller, Command}

-- the grammar's reading
abbrev pub seen : Reading → Said
seen Blank = blank
seen (Caller n) = caller n
seen (Command c) = command c

-- the grammar's reading of a line that was read, whatever follows it
abbrev pub reading_in : Reading × Bor (List ℕ) → Said
reading_in read = seen read.0

-- a caller is below the limit, and a command is valid
abbrev pub IsValidReading : Reading → Type 0
IsValidReading Blank = Unit {0}
IsValidReading (Caller n) = n < CALLERS
IsValidReading (Command c) = IsValid c
