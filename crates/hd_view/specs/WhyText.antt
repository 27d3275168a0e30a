-- The text of why a line may not come: the line, what is due, and the cause. It is this project's own format.
use Rattle.std.specs.Prelude.{ℕ, ◌+◌, ◌/◌, ◌%◌, ◌==◌, ◌&&◌, nat_le, if◌then◌else◌, List, [], ◌∷◌, ◌++◌, flat_map, length, take, codes, decimal, Option, Some, None}
use Rattle.std.specs.List.{before_first}
use Rattle.hd_model.specs.declared.data.Entry.{Entry}
use Rattle.hd_model.specs.declared.data.Kind.{Kind}
use Rattle.hd_model.specs.declared.data.Kind.TheVariants as kind
use Rattle.hd_model.specs.CommandText.{command_text, kind_name}
use Rattle.hd_model.specs.FullText.{full_line}
use Rattle.hd_model.specs.Grammar.{is_line_end}
use Rattle.hd_model.specs.Step.{blocks_needed}
use Rattle.hd_model.specs.Text.{newline}
use Rattle.hd_audit.specs.Before.{end_after}
use Rattle.hd_audit.specs.Known.{Known}
use Rattle.hd_view.specs.declared.accepted.Accepted.{Accepted}
use Rattle.hd_view.specs.declared.accepted.Accepted.TheVariants as accepted
use Rattle.hd_view.specs.declared.accepted.Due.{Due}
use Rattle.hd_view.specs.declared.cause.BlockCause.{BlockCause}
use Rattle.hd_view.specs.declared.cause.BlockCause.TheVariants as by_blocks
use Rattle.hd_view.specs.declared.cause.Cause.{Cause}
use Rattle.hd_view.specs.declared.cause.Cause.TheVariants as cause
use Rattle.hd_view.specs.declared.cause.Growth.{Growth}
use Rattle.hd_view.specs.declared.cause.Growth.TheVariants as growth
use Rattle.hd_view.specs.declared.cause.SlotCause.{SlotCause}
use Rattle.hd_view.specs.declared.cause.SlotCause.TheVariants as by_slot
use Rattle.hd_view.specs.declared.sets.NumberSet.{NumberSet}
use Rattle.hd_view.specs.declared.sets.Range.{Range}

-- ---- the line as it was printed

-- a byte that is no printed character of ASCII by its number to the base 16, and a backslash twice
abbrev pub digit_of : ℕ → ℕ
digit_of d = if nat_le d 9 then 48 + d else 87 + d

abbrev hex_word : ℕ → List ℕ
hex_word b = codes "\\x" ++ digit_of (b / 16) ∷ digit_of (b % 16) ∷ []

abbrev pub byte_word : ℕ → List ℕ
byte_word b =
    if b == 92 then codes "\\\\" else if nat_le 32 b && nat_le b 126 then b ∷ [] else hex_word b

-- at most 160 bytes so, and two dots where there are more
abbrev pub escaped : List ℕ → List ℕ
escaped bytes =
    if nat_le (length bytes) 160 then flat_map byte_word bytes
    else flat_map byte_word (take 160 bytes) ++ codes ".."

-- a line without the byte 10 at its end
abbrev pub line_bytes : List ℕ → List ℕ
line_bytes line = before_first is_line_end line

abbrev pub printed_text : List ℕ → List ℕ
printed_text bytes =
    if length bytes == 0 then codes "printed nothing" ++ newline
    else codes "printed " ++ escaped (line_bytes bytes) ++ newline

-- ---- sets of numbers

-- ranges with a comma and a blank between each two
abbrev pub range_word : Range → List ℕ
range_word r =
    if r.first == r.last then decimal r.first else decimal r.first ++ codes " to " ++ decimal r.last

-- a range that is not the first one
abbrev pub another_word : Range → List ℕ
another_word r = codes ", " ++ range_word r

abbrev pub ranges_word : List Range → List ℕ
ranges_word [] = []
ranges_word (r ∷ rs) = range_word r ++ flat_map another_word rs

abbrev pub but_word : List Range → List ℕ
but_word ranges = if length ranges == 0 then [] else codes " but " ++ ranges_word ranges

-- the number of a set that has one range of one number
abbrev pub number_in : List Range → Option ℕ
number_in [] = None
number_in (r ∷ rs) = if r.first == r.last then Some r.first else None

abbrev pub only_number : List Range → List Range → Option ℕ
only_number within but =
    if length within == 1 then (if length but == 0 then number_in within else None) else None

abbrev pub number_or : List ℕ → Option ℕ → List ℕ
number_or words None = words
number_or words (Some n) = decimal n

-- that number, and else a letter that stands for one of the numbers
abbrev pub letter_word : List ℕ → List Range → List Range → List ℕ
letter_word letter within but =
    letter ++ codes ", " ++ letter ++ codes " one of " ++ ranges_word within ++ but_word but

abbrev pub numbers_word : List ℕ → NumberSet → List ℕ
numbers_word letter set =
    number_or (letter_word letter set.within.items set.but.items) (only_number set.within.items set.but.items)

-- ---- what is due

abbrev pub start_of_due : List ℕ → Due → List ℕ
start_of_due word due = word ++ decimal due.caller ++ codes " " ++ decimal due.number ++ codes " "

abbrev pub set_line : Due → List ℕ → List ℕ → NumberSet → List ℕ
set_line due reply letter set =
    if length set.within.items == 0 then []
    else start_of_due (codes "accepts ") due ++ reply ++ numbers_word letter set ++ newline

abbrev pub entry_line : Due → Option Entry → List ℕ
entry_line due None = []
entry_line due (Some e) = codes "accepts " ++ full_line e due.number

-- those of a new row, and of a `trim`
abbrev pub slots_text : Due → NumberSet → Option Entry → Option Entry → List ℕ
slots_text due free grown full =
    set_line due (codes "ok @") (codes "S") free ++ entry_line due grown ++ entry_line due full

abbrev pub blocks_text : Due → NumberSet → List ℕ
blocks_text due free =
    start_of_due (codes "accepts ") due ++ codes "value 0" ++ newline
    ++ set_line due (codes "value 1 -") (codes "A") free

-- the lines that may come for a command
abbrev pub accepts_text : Due → Accepted → List ℕ
accepts_text due (accepted.One entry) = entry_line due (Some entry)
accepts_text due (accepted.Slots kind free grown full) = slots_text due free grown full
accepts_text due (accepted.Addresses id free) = set_line due (codes "addr ") (codes "N") free
accepts_text due (accepted.Blocks kind free) = blocks_text due free

abbrev pub due_text : Due → List ℕ
due_text due =
    start_of_due (codes "due ") due ++ command_text due.cmd ++ newline ++ accepts_text due due.accepted

-- what is due where no command is: the end line, or nothing
abbrev pub end_text : Known → List ℕ
end_text k =
    if k.ended then codes "due nothing" ++ newline
    else if k.left == 0 then codes "due end" ++ newline ++ codes "accepts " ++ end_after k
    else []

-- ---- the cause

abbrev pub slot_cause_word : SlotCause → List ℕ
slot_cause_word by_slot.Missing = codes "a slot is missing"
slot_cause_word by_slot.Needless = codes "a slot is needless"
slot_cause_word (by_slot.Freed slot) = codes "the command frees slot " ++ decimal slot.0
slot_cause_word (by_slot.Idle slot) = codes "the least idle slot is " ++ decimal slot.0
slot_cause_word (by_slot.InUse slot) = codes "slot " ++ decimal slot.0 ++ codes " is in use"
slot_cause_word (by_slot.OtherKind slot kind) =
    codes "slot " ++ decimal slot.0 ++ codes " is in no block of kind " ++ kind_name kind
slot_cause_word (by_slot.NotFirst block) = codes "the slot is not the first of block " ++ decimal block

-- which block is meant, of one or of two
abbrev pub growth_words : Growth → List ℕ
growth_words growth.Only = codes "the least block without a use is "
growth_words growth.First = codes "the first block is the least without a use: "
growth_words growth.Second = codes "the second block is the least without a use after the first: "

abbrev pub handle_words : Kind → List ℕ
handle_words kind.Short = codes "a weak short handle"
handle_words kind.Long = codes "a weak long handle"
handle_words kind.Strong = codes "a strong handle"
handle_words kind.Pinned = codes "a pinned handle"
handle_words kind.Variable = codes "a variable handle"
handle_words kind.Counted = codes "a ref-counted handle"
handle_words kind.Dependent = codes "a dependent handle"

abbrev pub too_few_words : ℕ → Kind → List ℕ
too_few_words unused kind =
    (codes "too few blocks are unused: " ++ decimal unused ++ codes ", and ") ++ handle_words kind
    ++ (codes " needs " ++ decimal (blocks_needed kind))

abbrev pub block_cause_word : BlockCause → List ℕ
block_cause_word by_blocks.Missing = codes "blocks are missing"
block_cause_word by_blocks.Needless = codes "blocks are needless"
block_cause_word by_blocks.Other = codes "the blocks are others"
block_cause_word (by_blocks.InUse block) = codes "block " ++ decimal block ++ codes " is in use"
block_cause_word (by_blocks.NotLeast which least) = growth_words which ++ decimal least
block_cause_word (by_blocks.OtherKind block kind) =
    codes "block " ++ decimal block ++ codes " has no handles of kind " ++ kind_name kind
block_cause_word (by_blocks.NotFree block kind) = codes "not all slots are free in block " ++ decimal block

abbrev pub cause_word : Cause → List ℕ
cause_word cause.Missing = codes "the line is missing"
cause_word cause.AfterEnd = codes "a line after the end line"
cause_word cause.NoEnd = codes "no byte 10 ends the line"
cause_word cause.NoLine = codes "these bytes are no line"
cause_word (cause.EndTooEarly left) = codes "commands are left: " ++ decimal left
cause_word cause.EndCounts = codes "the counts of the end line are others"
cause_word cause.OnlyEnd = codes "only the end line is due"
cause_word (cause.NoCaller caller) = codes "there is no caller " ++ decimal caller
cause_word (cause.ListEnd caller) = codes "the list of caller " ++ decimal caller ++ codes " is at its end"
cause_word (cause.Number number) = codes "the number of the command is " ++ decimal number
cause_word cause.Reply = codes "the reply is another"
cause_word (cause.Pinned address) = codes "the object is pinned at " ++ decimal address
cause_word (cause.AddressTaken address) =
    codes "an object with a pinned address is at " ++ decimal address
cause_word (cause.TooFew unused kind) = too_few_words unused kind
cause_word (cause.Slot c) = slot_cause_word c
cause_word (cause.Blocks c) = block_cause_word c
cause_word cause.Spelled = codes "it reads as a line that may come, but has other bytes"

-- all of it
abbrev pub why_text : Known → List Due → Cause → List ℕ
why_text k dues c =
    printed_text k.rest ++ flat_map due_text dues ++ end_text k ++ codes "cause " ++ cause_word c ++ newline
