-- A law of verdicts.
use Rattle.std.specs.Prelude.{ℕ, List}
use Rattle.hd_model.specs.declared.command.Cmd.{Cmd}
use Rattle.hd_model.specs.State.{Numbers}
use Rattle.hd_model.specs.RunTexts.{IsRunText, IsNoRun}

-- the full text of a run has no line that is wrong or missing
abbrev pub RunsHaveNoWrongLine : Type 0
RunsHaveNoWrongLine =
    (n : Numbers) (lists : List (List Cmd)) (bytes : List ℕ) (i : ℕ) → IsRunText n lists bytes
    → IsNoRun n lists bytes i → ⊥
