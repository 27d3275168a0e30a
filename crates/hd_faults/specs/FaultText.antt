-- A line's fault in words for people. It is this project's own format.
use Rattle.std.specs.Prelude.{ℕ, ◌/◌, ◌%◌, ◌+◌, ◌==◌, ◌&&◌, ◌||◌, nat_le, if◌then◌else◌, List, [], ◌∷◌, ◌++◌, flat_map, length, take, codes, decimal, Option, Some, None}
use Rattle.hd_faults.specs.declared.explaining.Unread.{Unread}
use Rattle.hd_faults.specs.declared.explaining.Unread.TheVariants.{TooLarge, Failed}
use Rattle.hd_faults.specs.declared.fault.Cause.{Cause}
use Rattle.hd_faults.specs.declared.fault.Cause.TheVariants as cause
use Rattle.hd_faults.specs.declared.fault.LineFault.{LineFault}
use Rattle.hd_model.specs.declared.operand.Operand.{Operand}
use Rattle.hd_model.specs.declared.operand.Operand.TheVariants.{Object, Handle, Number, Kind, PlainKind, Strength, Fin}
use Rattle.hd_faults.specs.Hints.{names_for, nearest}

-- a digit of a number to the base 16
abbrev pub digit_of : ℕ → ℕ
digit_of d = if nat_le d 9 then 48 + d else 87 + d

-- a byte as it is shown: a quote or a backslash behind a backslash, what is no printed character of ASCII by
-- its number to the base 16
abbrev pub byte_word : ℕ → List ℕ
byte_word b =
    if (b == 34) || (b == 92) then 92 ∷ b ∷ []
    else if nat_le 32 b && nat_le b 126 then b ∷ []
    else 92 ∷ 120 ∷ digit_of (b / 16) ∷ digit_of (b % 16) ∷ []

-- at most 40 bytes so, and two dots where there are more
abbrev pub escaped : List ℕ → List ℕ
escaped word =
    if nat_le (length word) 40 then flat_map byte_word word
    else flat_map byte_word (take 40 word) ++ codes ".."

abbrev pub quoted : List ℕ → List ℕ
quoted word = 34 ∷ [] ++ escaped word ++ 34 ∷ []

-- the range of a number
abbrev pub range_words : ℕ → List ℕ
range_words most = codes "no number from 0 to " ++ decimal most ++ codes " "

-- what a word is not that has to be one
abbrev pub wanted_words : Operand → List ℕ
wanted_words Object = codes "no object register r0 to r15 "
wanted_words Handle = codes "no handle register h0 to h15 "
wanted_words (Number most) = range_words most
wanted_words Kind = codes "no kind "
wanted_words PlainKind = codes "no kind without extra data "
wanted_words Strength = codes "no strength "
wanted_words Fin = codes "only fin may follow, not "

-- the most operands that a command takes, where they are more than the least
abbrev pub more_words : ℕ → ℕ → List ℕ
more_words least most = if least == most then [] else codes " or " ++ decimal most

abbrev pub noun : ℕ → List ℕ
noun most = if most == 1 then codes " operand, not " else codes " operands, not "

-- how many operands a command takes, and how many it has
abbrev pub count_words : List ℕ → ℕ → ℕ → ℕ → List ℕ
count_words command least most has =
    command ++ codes " takes " ++ decimal least ++ more_words least most ++ noun most ++ decimal has

-- an operand that is not what it has to be
abbrev pub operand_words : List ℕ → Operand → List ℕ → List ℕ
operand_words command wanted word = command ++ codes ": " ++ wanted_words wanted ++ quoted word

-- a cause, by the first word of the line and the word at fault
abbrev pub cause_words : Cause → List ℕ → List ℕ → List ℕ
cause_words cause.Unknown command word = codes "no command " ++ quoted word
cause_words (cause.Count least most has) command word = count_words command least most has
cause_words (cause.Operand number wanted) command word = operand_words command wanted word
cause_words cause.TooMany command word = codes "one command too many: a script has at most 100000"

-- what may have been meant
abbrev pub name_words : List ℕ → List ℕ
name_words name = codes "; did you mean " ++ name ++ codes "?"

abbrev pub hint_words : Option (List ℕ) → List ℕ
hint_words None = []
hint_words (Some name) = name_words name

-- a line and a column
abbrev pub position_words : ℕ → ℕ → List ℕ
position_words number column =
    codes "line " ++ decimal number ++ codes ", column " ++ decimal column ++ codes ": "

-- the line, the column, the cause, and what may have been meant
abbrev pub fault_text : ℕ → LineFault → List ℕ
fault_text number fault =
    position_words number fault.column ++ cause_words fault.cause fault.command.now fault.word.now
    ++ hint_words (nearest fault.word.now (names_for fault.cause)) ++ codes "\n"

-- why an input was not read, where no line is at fault
abbrev pub unread_text : Unread → List ℕ
unread_text TooLarge = codes "the input has more than 8388608 bytes\n"
unread_text Failed = codes "a read failed\n"
