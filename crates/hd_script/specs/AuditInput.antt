-- The input of an audit: a script, a dividing line, and the text that is judged.
use Rattle.std.specs.Prelude.{◌≡◌, ℕ, ◌+◌, Bool, true, false, List, [], ◌∷◌, ◌++◌, length, All, codes, bytes_eq, Err}
use Rattle.hd_model.specs.declared.command.Cmd.{Cmd}
use Rattle.hd_model.specs.Grammar.{script_of, IsScript}
use Rattle.hd_model.specs.RunTexts.{cut_lines}
use Rattle.hd_script.specs.Words.{words_at}
use Rattle.hd_script.specs.declared.fault.ScriptFault.{ScriptFault}
use Rattle.hd_script.specs.declared.fault.ScriptFault.TheVariants.{Line, Memory}

-- whether words are the one word `=`
abbrev pub are_divider : List (List ℕ) → Bool
are_divider [] = false
are_divider (word ∷ []) = bytes_eq word (codes "=")
are_divider (word ∷ other ∷ words) = false

-- whether a line divides
abbrev pub is_dividing : List ℕ → Bool
is_dividing line = are_divider (words_at line)

-- no line divides
abbrev pub NoneDivides : List (List ℕ) → Type 0
NoneDivides lines = All (λ line. is_dividing line ≡ false) lines

-- the bytes are cut at their first dividing line
pub record IsDivided (bytes script text : List ℕ) : Type 0 where
  pub line : List ℕ
  pub lines : cut_lines bytes ≡ cut_lines script ++ line ∷ cut_lines text
  pub divides : is_dividing line ≡ true
  pub first : NoneDivides (cut_lines script)

-- the bytes are a script with these lists, a dividing line and this text
pub record IsAuditInput (bytes : List ℕ) (lists : List (List Cmd)) (text : List ℕ) : Type 0 where
  pub script : List ℕ
  pub divided : IsDivided bytes script text
  pub right : IsScript script lists

-- the number of a line at fault: the script's, where no line divides that of all lines as a script, and
-- where no line is at fault and none divides, the number of the line that is missing
pub data IsNoAuditInput (bytes : List ℕ) : ℕ → Type 0 where
  in_script : {script text : List ℕ} {line : ℕ} → IsDivided bytes script text → script_of script ≡ Err line
      → IsNoAuditInput bytes line
  in_all : {line : ℕ} → NoneDivides (cut_lines bytes) → script_of bytes ≡ Err line
      → IsNoAuditInput bytes line
  undivided : {lists : List (List Cmd)} → NoneDivides (cut_lines bytes) → IsScript bytes lists
      → IsNoAuditInput bytes (length (cut_lines bytes) + 1)

-- what a fault means for the bytes; out of memory means nothing for them
abbrev pub IsInputFault : List ℕ → ScriptFault → Type 0
IsInputFault bytes (Line k) = IsNoAuditInput bytes k
IsInputFault bytes Memory = Unit {0}
