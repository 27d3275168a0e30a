-- The grammar of a script: bytes as lines, lines as words, words as what they say, and the commands of each
-- caller. It is this project's own format.
use Rattle.std.specs.Prelude.{◌≡◌, ℕ, ◌+◌, ◌-◌, ◌*◌, ◌≤◌, max, Bool, true, false, not, ◌&&◌, ◌||◌, ◌==◌, nat_lt, nat_le, if◌then◌else◌, List, [], ◌∷◌, ◌++◌, map, length, fold, filter, sum_by, All, codes, bytes_eq, Option, Some, None, is_some, option_map, option_and_then, option_to_list, Result, Ok, Err}
use Rattle.std.specs.Char.{is_ascii_digit}
use Rattle.std.specs.List.{slice_split, before_first, list_all, range_with_len}
use Rattle.std.specs.Str.Lines.{strip_carriage_return}
use Rattle.hd_model.specs.declared.limits.TheConstants.{CALLERS, REGISTERS, MOST_COMMANDS}
use Rattle.hd_model.specs.Data.{Kind as KindOf, Strength as StrengthOf, Make, Cmd, Operand}
use Rattle.hd_model.specs.declared.data.Kind.TheVariants as kind
use Rattle.hd_model.specs.declared.data.Strength.TheVariants as strength
use Rattle.hd_model.specs.declared.data.Make.TheVariants as make
use Rattle.hd_model.specs.declared.command.Cmd.TheVariants as cmd
use Rattle.hd_model.specs.declared.operand.Operand.TheVariants.{Object, Handle, Number, Kind, PlainKind, Strength, Fin}
use Rattle.hd_model.specs.Rows.{Form, Makes, ValueOf, forms}
use Rattle.hd_model.specs.Valid.{IsValid}

-- byte 10 ends a line
abbrev pub is_line_end : ℕ → Bool
is_line_end b = b == 10

-- what follows the last line end is a line only where it has a byte
abbrev pub without_empty_last : List (List ℕ) → List (List ℕ)
without_empty_last [] = []
without_empty_last (line ∷ []) = if length line == 0 then [] else line ∷ []
without_empty_last (line ∷ next ∷ lines) = line ∷ without_empty_last (next ∷ lines)

-- the lines, without their ends. A line ends at byte 10 or at the end of the input.
unfoldable pub lines_in : List ℕ → List (List ℕ)
lines_in bytes = without_empty_last (slice_split is_line_end bytes)

-- `#` begins a comment
abbrev pub is_hash : ℕ → Bool
is_hash b = b == 35

-- words are between spaces and tabs
abbrev pub is_blank : ℕ → Bool
is_blank b = (b == 32) || (b == 9)

-- the words of bytes: the parts between blanks that have a byte
unfoldable pub words_in : List ℕ → List (List ℕ)
words_in bytes = filter (λ word. nat_lt 0 (length word)) (slice_split is_blank bytes)

-- the words of a line. One carriage return directly before its end is dropped, and then a comment.
unfoldable pub words_of : List ℕ → List (List ℕ)
words_of line = words_in (before_first is_hash (strip_carriage_return line))

-- what decimal digits are worth
unfoldable pub value_of : List ℕ → ℕ
value_of digits = fold (λ n b. n * 10 + (b - 48)) 0 digits

-- a number: one or more decimal digits, of any length, whose value is at most a limit
unfoldable pub number_of : ℕ → List ℕ → Option ℕ
number_of most word =
    if nat_lt 0 (length word) && list_all is_ascii_digit word && nat_le (value_of word) most
    then Some (value_of word) else None

-- a register: its letter, and directly after it a number from 0 to 15
unfoldable pub register_in : ℕ → List ℕ → Option ℕ
register_in letter [] = None
register_in letter (b ∷ digits) = if b == letter then number_of (REGISTERS - 1) digits else None

-- an object register, as `r7`
abbrev pub object_register_in : List ℕ → Option ℕ
object_register_in word = register_in 114 word

-- a handle register, as `h7`
abbrev pub handle_register_in : List ℕ → Option ℕ
handle_register_in word = register_in 104 word

-- the first row of a table that begins with the word says what it means; without one it means nothing
abbrev pub look_up : {A : Type 0} → List ℕ → List (List ℕ × Option A) → Option A
look_up word [] = None
look_up word (row ∷ rows) = if bytes_eq word row.0 then row.1 else look_up word rows

-- the strength of a variable handle
unfoldable pub strength_of : List ℕ → Option StrengthOf
strength_of word = look_up word (
    (codes "short", Some strength.Short)
    ∷ (codes "long", Some strength.Long)
    ∷ (codes "strong", Some strength.Strong)
    ∷ (codes "pinned", Some strength.Pinned)
    ∷ [])

-- a kind of handle that needs no more than its target
unfoldable pub make_of : List ℕ → Option Make
make_of word = look_up word (
    (codes "short", Some make.Short)
    ∷ (codes "long", Some make.Long)
    ∷ (codes "strong", Some make.Strong)
    ∷ (codes "pinned", Some make.Pinned)
    ∷ (codes "ref", Some make.Counted)
    ∷ [])

-- a kind of handle whose blocks can be given back: one without extra data
unfoldable pub trimmed_kind_of : List ℕ → Option KindOf
trimmed_kind_of word = look_up word (
    (codes "short", Some kind.Short)
    ∷ (codes "long", Some kind.Long)
    ∷ (codes "strong", Some kind.Strong)
    ∷ (codes "pinned", Some kind.Pinned)
    ∷ [])

-- `fin` registers a new object for finalization
unfoldable pub fin_of : List ℕ → Option Bool
fin_of word = look_up word ((codes "fin", Some true) ∷ [])

-- a kind of handle
abbrev pub is_kind : List ℕ → Bool
is_kind word = is_some (make_of word) || bytes_eq word (codes "var") || bytes_eq word (codes "dep")

-- the value of a word that is what an operand has to be
abbrev pub value_in : (o : Operand) → List ℕ → Option (ValueOf o)
value_in Object word = object_register_in word
value_in Handle word = handle_register_in word
value_in (Number most) word = number_of most word
value_in Kind word = if is_kind word then Some tt else None
value_in PlainKind word = trimmed_kind_of word
value_in Strength word = strength_of word
value_in Fin word = fin_of word

-- the value of an operand that is left out, if it may be
abbrev pub left_out : (o : Operand) → Option (ValueOf o)
left_out Object = None
left_out Handle = None
left_out (Number most) = None
left_out Kind = None
left_out PlainKind = None
left_out Strength = None
left_out Fin = Some false

-- what words make as operands, where each has a value
abbrev pub made_of : {A : Type 0} → (os : List Operand) → Makes A os → List (List ℕ) → Option A
made_of [] made [] = Some made
made_of [] made (word ∷ words) = None
made_of (o ∷ os) make [] = option_and_then (λ v. made_of os (make v) []) (left_out o)
made_of (o ∷ os) make (word ∷ words) = option_and_then (λ v. made_of os (make v) words) (value_in o word)

-- how many operands there are at least: up to the last that may not be left out
abbrev pub least : List Operand → ℕ
least [] = 0
least (o ∷ os) = if is_some (left_out o) && (least os == 0) then 0 else 1 + least os

-- there are too few or too many operands
abbrev pub is_other_count : List Operand → ℕ → Bool
is_other_count os count = nat_lt count (least os) || nat_lt (length os) count

-- what is made of three parts, where each of them has a reading
abbrev pub three : {A B C : Type 0} → (A → B → C → Cmd) → Option A → Option B → Option C → Option Cmd
three f None b c = None
three f (Some a) None c = None
three f (Some a) (Some b) None = None
three f (Some a) (Some b) (Some c) = Some (f a b c)

-- what words make of each form that may have so many, by its word
abbrev pub commands_by : List (List ℕ) → List (List ℕ × Option Cmd)
commands_by words =
    map (λ (f : Form). (f.word, made_of f.operands f.make words))
    (filter (λ (f : Form). not (is_other_count f.operands (length words))) forms)

-- a command of two words, three words, and so on
unfoldable pub two_words : List ℕ → List ℕ → Option Cmd
two_words word a = look_up word (commands_by (a ∷ []))

unfoldable pub three_words : List ℕ → List ℕ → List ℕ → Option Cmd
three_words word a b = look_up word (commands_by (a ∷ b ∷ []))

unfoldable pub four_words : List ℕ → List ℕ → List ℕ → List ℕ → Option Cmd
four_words word a b c =
    if bytes_eq word (codes "hnew")
    then three cmd.HNew (handle_register_in a) (make_of b) (object_register_in c)
    else look_up word (commands_by (a ∷ b ∷ c ∷ []))

-- `hnew hD var rT STRENGTH` and `hnew hD dep rT rS`
unfoldable pub hnew_of : List ℕ → List ℕ → List ℕ → List ℕ → Option Cmd
hnew_of a kind c d = look_up kind ((
  codes "var",
  three (λ h t s. cmd.HNew h (make.Variable s) t)
      (handle_register_in a) (object_register_in c) (strength_of d),
)
    ∷ (
      codes "dep",
      three (λ h t s. cmd.HNew h (make.Dependent s) t)
          (handle_register_in a) (object_register_in c) (object_register_in d),
    )
    ∷ [])

-- a command of five words
unfoldable pub five_words : List ℕ → List ℕ → List ℕ → List ℕ → List ℕ → Option Cmd
five_words word a b c d = look_up word ((codes "hnew", hnew_of a b c d) ∷ [])

-- what a line says: nothing, whose commands follow, or a command
pub data Reading : Type 0 where
  blank : Reading
  caller : ℕ → Reading
  command : Cmd → Reading

-- what the words of a line say, or none where they have no reading
unfoldable pub reading_of : List (List ℕ) → Option Reading
reading_of [] = Some blank
reading_of (word ∷ []) = None
reading_of (word ∷ a ∷ []) =
    if bytes_eq word (codes "caller") then option_map caller (number_of (CALLERS - 1) a)
    else option_map command (two_words word a)
reading_of (word ∷ a ∷ b ∷ []) = option_map command (three_words word a b)
reading_of (word ∷ a ∷ b ∷ c ∷ []) = option_map command (four_words word a b c)
reading_of (word ∷ a ∷ b ∷ c ∷ d ∷ []) = option_map command (five_words word a b c d)
reading_of (word ∷ a ∷ b ∷ c ∷ d ∷ e ∷ words) = None

-- what each line says
unfoldable pub readings_of : List ℕ → List (Option Reading)
readings_of bytes = map (λ line. reading_of (words_of line)) (lines_in bytes)

-- whose commands follow a line: those of the caller that it states, and else of the one before
abbrev pub caller_after : ℕ → Option Reading → ℕ
caller_after now (Some (caller n)) = n
caller_after now (Some blank) = now
caller_after now (Some (command c)) = now
caller_after now None = now

-- the command of a line that is one
abbrev pub command_in : Option Reading → Option Cmd
command_in (Some (command c)) = Some c
command_in (Some blank) = None
command_in (Some (caller n)) = None
command_in None = None

-- the commands of one caller, in the order of their lines, where the first line is one of caller `now`
abbrev pub commands_for : ℕ → ℕ → List (Option Reading) → List Cmd
commands_for wanted now [] = []
commands_for wanted now (reading ∷ rest) =
    (if now == wanted then option_to_list (command_in reading) else [])
    ++ commands_for wanted (caller_after now reading) rest

-- the number of callers: they are 0 to the largest number that a line states, and 0 alone where none does
abbrev pub callers_of : List (Option Reading) → ℕ
callers_of [] = 1
callers_of (reading ∷ rest) = max (caller_after 0 reading + 1) (callers_of rest)

-- the list of each caller. Before a line states one, the commands are those of caller 0.
unfoldable pub lists_of : List (Option Reading) → List (List Cmd)
lists_of readings = map (λ wanted. commands_for wanted 0 readings) (range_with_len 0 (callers_of readings))

-- the first line that has no reading or holds a command too many, where the lines are numbered from `line`
-- and `before` commands come before them
abbrev pub first_fault : ℕ → ℕ → List (Option Reading) → Option ℕ
first_fault line before [] = None
first_fault line before (None ∷ rest) = Some line
first_fault line before (Some (command c) ∷ rest) =
    if nat_lt before MOST_COMMANDS then first_fault (line + 1) (before + 1) rest else Some line
first_fault line before (Some blank ∷ rest) = first_fault (line + 1) before rest
first_fault line before (Some (caller n) ∷ rest) = first_fault (line + 1) before rest

-- the lists, unless a line is at fault
abbrev pub unless_fault : Option ℕ → List (List Cmd) → Result (List (List Cmd)) ℕ
unless_fault None lists = Ok lists
unless_fault (Some line) lists = Err line

-- a script: the list of commands of each caller, or the number, from 1, of the first line that is at fault
unfoldable pub script_of : List ℕ → Result (List (List Cmd)) ℕ
script_of bytes = unless_fault (first_fault 1 0 (readings_of bytes)) (lists_of (readings_of bytes))

-- the bytes are a script with these lists
abbrev pub IsScript : List ℕ → List (List Cmd) → Type 0
IsScript bytes lists = script_of bytes ≡ Ok lists

-- what is true of the lists of each script: 1 to 16 callers, valid commands, and at most 100,000 of them
pub record AreLists (lists : List (List Cmd)) : Type 0 where
  pub least : 1 ≤ length lists
  pub most : length lists ≤ CALLERS
  pub valid : All (λ list. All IsValid list) lists
  pub total : sum_by length lists ≤ MOST_COMMANDS
