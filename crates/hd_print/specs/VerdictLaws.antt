-- Laws of which lines of a text are right.
use Rattle.std.specs.Prelude.{◌≡◌, ℕ, List, ◌++◌, All}
use Rattle.hd_model.specs.declared.command.Cmd.{Cmd}
use Rattle.hd_model.specs.State.{Numbers}
use Rattle.hd_model.specs.Text.{newline}
use Rattle.hd_model.specs.RunTexts.{AreRight, IsNoRun}

-- a line has its end
pub record HasEnd (line : List ℕ) : Type 0 where
  pub bytes : List ℕ
  pub ended : line ≡ bytes ++ newline

-- a line without its end is not right
abbrev pub RightLinesHaveEnds : Type 0
RightLinesHaveEnds =
    (n : Numbers) (lists : List (List Cmd)) (lines : List (List ℕ)) → AreRight n lists lines
    → All HasEnd lines

-- a text has one number of a line that is not right
abbrev pub OneLineIsWrong : Type 0
OneLineIsWrong =
    (n : Numbers) (lists : List (List Cmd)) (bytes : List ℕ) (i k : ℕ) → IsNoRun n lists bytes i
    → IsNoRun n lists bytes k → i ≡ k
