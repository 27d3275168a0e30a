-- What a verdict says of a text.
use Rattle.std.specs.Prelude.{ℕ, List, length}
use Rattle.hd_model.specs.declared.command.Cmd.{Cmd}
use Rattle.hd_model.specs.State.{Numbers}
use Rattle.hd_model.specs.RunTexts.{IsRunText, IsNoRun}
use Rattle.hd_audit.specs.declared.lines.Verdict.{Verdict}
use Rattle.hd_audit.specs.declared.lines.Verdict.TheVariants.{Run, NotRun, Memory}

-- the numbers of a run of a script
abbrev pub numbers_of : List (List Cmd) → ℕ → ℕ → Numbers
numbers_of lists heap blocks = record { heap = heap; blocks = blocks; callers = length lists }

-- the verdict is right: the text is that of a run of the whole script, or this line of it is the first that
-- is not right; without memory nothing is said
abbrev pub IsRight : Numbers → List (List Cmd) → List ℕ → Verdict → Type 0
IsRight n lists bytes Run = IsRunText n lists bytes
IsRight n lists bytes (NotRun line) = IsNoRun n lists bytes line
IsRight n lists bytes Memory = Unit {0}
