-- What is read off a line: loosely, since the line is compared with that of its entry afterwards.
use Rattle.std.specs.Prelude.{ℕ, ◌+◌, ◌-◌, ◌*◌, ◌%◌, ◌^◌, ◌==◌, if◌then◌else◌, List, [], ◌∷◌, Option, Some, None, option_map, unwrap_or}
use Rattle.std.specs.Option.{option_map_or}
use Rattle.std.specs.Char.{is_ascii_digit}
use Rattle.hd_model.specs.declared.data.Slot.{Slot}
use Rattle.hd_model.specs.declared.data.Grown.{Grown}
use Rattle.hd_model.specs.declared.data.Grown.TheVariants.{Zero, One, Two, Back}
use Rattle.hd_plain.specs.declared.choice.Choice.{Choice}

-- the bytes after the first mark
abbrev pub after_mark : ℕ → List ℕ → Option (List ℕ)
after_mark mark [] = None
after_mark mark (b ∷ bytes) = if b == mark then Some bytes else after_mark mark bytes

-- the number with which bytes begin, after the digits of another, modulo 2^32
abbrev pub leading_from : ℕ → List ℕ → ℕ
leading_from value [] = value
leading_from value (b ∷ bytes) =
    if is_ascii_digit b then leading_from ((value * 10 + (b - 48)) % 2 ^ 32) bytes else value

abbrev pub leading : List ℕ → ℕ
leading bytes = leading_from 0 bytes

-- the slot, after its mark `@`
abbrev pub slot_in : List ℕ → Option Slot
slot_in line = option_map (λ rest. record { 0 = leading rest }) (after_mark 64 line)

-- the blocks, after their mark `+` or `-`
abbrev pub added_in : List ℕ → Grown
added_in rest =
    option_map_or (λ more. Two (leading rest) (leading more)) (after_mark 44 rest) (One (leading rest))

abbrev pub grown_in : List ℕ → Grown
grown_in line =
    option_map_or added_in (after_mark 43 line)
    (option_map_or (λ rest. Back (leading rest)) (after_mark 45 line) Zero)

-- the number of the fourth word
abbrev pub after_blank : List ℕ → List ℕ
after_blank bytes = unwrap_or (after_mark 32 bytes) []

abbrev pub address_in : List ℕ → ℕ
address_in line = leading (after_blank (after_blank (after_blank line)))

-- all that is read off a line
abbrev pub choice_in : List ℕ → Choice
choice_in line =
    record { caller = leading line; slot = slot_in line; grown = grown_in line; address = address_in line }
