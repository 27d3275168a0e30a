-- What a line states of its entry, read loosely.
use Rattle.std.specs.Prelude.{◌≡◌, ℕ, ◌<◌, ◌^◌, ◌==◌, ◌&&◌, ◌⊎◌, nat_le, if◌then◌else◌, Bool, true, false, List, [], ◌∷◌, ◌++◌, length, take, bytes_eq, Option, Some, None, option_map, option_and_then}
use Rattle.std.specs.Char.{is_ascii_digit}
use Rattle.hd_model.specs.declared.data.Entry.{Entry}
use Rattle.hd_model.specs.declared.data.Grown.{Grown}
use Rattle.hd_model.specs.declared.data.Reply.{Reply}
use Rattle.hd_model.specs.declared.data.Slot.{Slot}
use Rattle.hd_model.specs.FullText.{full_line}
use Rattle.hd_model.specs.Text.{reply_text}
use Rattle.hd_plain.specs.Choice.{leading, slot_in, grown_in, address_in}

-- a caller, a number, the bytes behind them, and the slot, the blocks and the address that are read there
pub record Parts : Type 0 where
  pub caller : ℕ
  pub number : ℕ
  pub tail : List ℕ
  pub slot : Option Slot
  pub grown : Grown
  pub address : ℕ

-- the bytes after digits, of which there is one at least, and a blank
abbrev pub after_digits : Bool → List ℕ → Option (List ℕ)
after_digits some [] = None
after_digits some (b ∷ bytes) =
    if is_ascii_digit b then after_digits true bytes else if some && (b == 32) then Some bytes else None

abbrev pub after_number : List ℕ → Option (List ℕ)
after_number bytes = after_digits false bytes

-- what a line states, where it begins with two numbers that have a blank behind them
abbrev pub parts_of : List ℕ → List ℕ → List ℕ → Parts
parts_of line rest tail = record {
  caller = leading line;
  number = leading rest;
  tail = tail;
  slot = slot_in line;
  grown = grown_in line;
  address = address_in line;
}

abbrev pub stated_in : List ℕ → Option Parts
stated_in line =
    option_and_then (λ rest. option_map (parts_of line rest) (after_number rest)) (after_number line)

-- law: each full line states something
abbrev pub FullLinesStateParts : Type 0
FullLinesStateParts =
    (e : Entry) (number : ℕ) → e.caller < 2 ^ 64 → number < 2 ^ 64
    → (parts : Parts) × (stated_in (full_line e number) ≡ Some parts)

-- bytes begin with others
abbrev pub begins : List ℕ → List ℕ → Bool
begins bytes text = nat_le (length text) (length bytes) && bytes_eq (take (length text) bytes) text

-- bytes are the end of a word: a blank or the end of a line comes first
abbrev pub EndsWord : List ℕ → Type 0
EndsWord [] = ⊥
EndsWord (b ∷ bytes) = (b ≡ 32) ⊎ (b ≡ 10)

-- bytes begin with a reply
pub record HasReply (tail : List ℕ) (reply : Reply) : Type 0 where
  pub rest : List ℕ
  pub text : tail ≡ reply_text reply ++ rest
  pub word : EndsWord rest
