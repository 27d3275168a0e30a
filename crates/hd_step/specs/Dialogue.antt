-- A dialogue: lines, and what is written after each of them.
use Rattle.std.specs.Prelude.{◌≡◌, ℕ, ◌<◌, ◌⊎◌, Bool, true, false, nat_lt, if◌then◌else◌, List, [], ◌∷◌, ◌++◌, map, fold, length, take, slice_index_or, bytes_eq, codes, Option, Some, None, Contains, is_some}
use Rattle.std.specs.List.{concat}
use Rattle.hd_model.specs.declared.command.Cmd.{Cmd}
use Rattle.hd_model.specs.declared.data.Entry.{Entry}
use Rattle.hd_model.specs.declared.limits.TheConstants.{MOST_COMMANDS}
use Rattle.hd_model.specs.Grammar.{Reading, blank, caller, command, reading_of, words_of}
use Rattle.hd_model.specs.State.{Numbers, State}
use Rattle.hd_model.specs.Run.{Run}
use Rattle.hd_model.specs.Text.{lines_of}
use Rattle.hd_step.specs.Machine.{MachineView}
use Rattle.hd_step.specs.declared.own.Answer.{Answer}
use Rattle.hd_step.specs.declared.own.Answer.TheVariants as answer
use Rattle.hd_step.specs.declared.own.Own.{Own}
use Rattle.hd_step.specs.declared.own.Own.TheVariants as own

-- a line, without its end, and what was written after it
pub record Exchange : Type 0 where
  pub line : List ℕ
  pub text : List ℕ

-- what the words of a line ask for that a dialogue alone has: `show`, or `path` or `slot` with one word
abbrev pub asked : List (List ℕ) → Option Own
asked [] = None
asked (word ∷ []) = if bytes_eq word (codes "show") then Some own.Show else None
asked (word ∷ other ∷ []) =
    if bytes_eq word (codes "path") then Some own.Path
    else if bytes_eq word (codes "slot") then Some own.Slot
    else None
asked (word ∷ other ∷ more ∷ words) = None

abbrev pub is_own : List (List ℕ) → Bool
is_own words = is_some (asked words)

-- an answer is a text of which P holds, or an operand is at fault
abbrev pub IsAnswerOf : (List ℕ → Type 0) → Type 0 → Answer → Type 0
IsAnswerOf P Fault (answer.Text text) = (Fault → ⊥) × P text.items
IsAnswerOf P Fault (answer.Fault why) = Fault

-- whose commands follow, the turns so far, each a caller and a command, and whether a line was left out
pub record Said : Type 0 where
  pub caller : ℕ
  pub turns : List (ℕ × Cmd)
  pub left_out : Bool

-- after a line with a reading or without one. A command for which there is no room is left out too.
abbrev pub after_reading : Said → Option Reading → Said
after_reading s None = record s { left_out = true }
after_reading s (Some blank) = s
after_reading s (Some (caller n)) = record s { caller = n }
after_reading s (Some (command c)) =
    if nat_lt (length s.turns) MOST_COMMANDS then record s { turns = s.turns ++ (s.caller, c) ∷ [] }
    else record s { left_out = true }

abbrev pub after_words : Said → List (List ℕ) → Said
after_words s words = if is_own words then s else after_reading s (reading_of words)

-- what lines say, one after another: the first commands are caller 0's
abbrev pub said_by : List (List ℕ) → Said
said_by lines =
    fold (λ s line. after_words s (words_of line)) (record { caller = 0; turns = []; left_out = false }) lines

abbrev pub lines_of_all : List Exchange → List (List ℕ)
lines_of_all exchanges = map (λ (x : Exchange). x.line) exchanges

-- all that was written
abbrev pub text_of_all : List Exchange → List ℕ
text_of_all exchanges = concat (map (λ (x : Exchange). x.text) exchanges)

-- what was written but for the answers to a dialogue's own words
abbrev pub reply_in : Exchange → List ℕ
reply_in x = if is_own (words_of x.line) then [] else x.text

abbrev pub replies_of_all : List Exchange → List ℕ
replies_of_all exchanges = concat (map reply_in exchanges)

-- the turn of an entry
abbrev pub turn_of : Entry → ℕ × Cmd
turn_of e = (e.caller, e.cmd)

-- an exchange of own words behind others, within a journal: its text is the answer of a machine that the others
-- lead to, or empty where the operand is at fault
pub record IsAnswered (A : MachineView → List (List ℕ) → List ℕ → Type 0) (F : List (List ℕ) → Type 0) (n : Numbers)
    (journal : List Entry) (before : List Exchange) (x : Exchange) : Type 0 where
  pub machine : MachineView
  pub later : List Entry
  pub parts : journal ≡ machine.journal ++ later
  pub turns : map turn_of machine.journal ≡ (said_by (lines_of_all before)).turns
  pub numbers : machine.numbers ≡ n
  pub run : Run n machine.journal machine.state
  pub says : (F (words_of x.line) × (x.text ≡ []))
      ⊎ ((F (words_of x.line) → ⊥) × A machine (words_of x.line) x.text)

abbrev pub exchange_at : List Exchange → ℕ → Exchange
exchange_at exchanges k = slice_index_or exchanges k (record { line = []; text = [] })

abbrev pub AreAnswered : (MachineView → List (List ℕ) → List ℕ → Type 0) → (List (List ℕ) → Type 0) → Numbers
    → List Entry → List Exchange → Type 0
AreAnswered A F n journal exchanges =
    (k : ℕ) → k < length exchanges → is_own (words_of (exchange_at exchanges k).line) ≡ true
    → IsAnswered A F n journal (take k exchanges) (exchange_at exchanges k)

-- the replies are the lines of a run, whose turns are those that the lines say, in their order, and each of the
-- own words is answered
pub record IsOfRun (A : MachineView → List (List ℕ) → List ℕ → Type 0) (F : List (List ℕ) → Type 0) (n : Numbers)
    (exchanges : List Exchange) : Type 0 where
  pub journal : List Entry
  pub state : State
  pub run : Run n journal state
  pub turns : map turn_of journal ≡ (said_by (lines_of_all exchanges)).turns
  pub text : replies_of_all exchanges ≡ lines_of journal
  pub answered : AreAnswered A F n journal exchanges

-- so after each line
abbrev pub IsOfRunThroughout : (MachineView → List (List ℕ) → List ℕ → Type 0) → (List (List ℕ) → Type 0)
    → Numbers → List Exchange → Type 0
IsOfRunThroughout A F n exchanges = (k : ℕ) → IsOfRun A F n (take k exchanges)

-- a line was left out, or an operand of own words was at fault
abbrev pub HasFaulty : (List (List ℕ) → Type 0) → List Exchange → Type 0
HasFaulty F exchanges =
    (x : Exchange) × Contains exchanges x × (is_own (words_of x.line) ≡ true) × F (words_of x.line)

abbrev pub HasBad : (List (List ℕ) → Type 0) → List Exchange → Type 0
HasBad F exchanges = ((said_by (lines_of_all exchanges)).left_out ≡ true) ⊎ HasFaulty F exchanges
