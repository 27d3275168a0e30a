-- Where a line's fault is.
use Rattle.std.specs.Prelude.{◌≡◌, ℕ, List, slice_get, Some, option_map}
use Rattle.hd_faults.specs.declared.fault.Cause.{Cause}
use Rattle.hd_faults.specs.declared.fault.Cause.TheVariants as cause
use Rattle.hd_faults.specs.declared.fault.LineFault.{LineFault}
use Rattle.hd_faults.specs.Placed.{placed_words}

-- the index of the word at fault: an operand follows the name of its command, and else that is the word
abbrev pub word_of : Cause → ℕ
word_of cause.Unknown = 0
word_of (cause.Count least most has) = 0
word_of (cause.Operand number wanted) = number
word_of cause.TooMany = 0

-- a fault has the first of these words, and the one that its cause names, with its column
pub record IsPlacedIn (words : List (ℕ × List ℕ)) (fault : LineFault) : Type 0 where
  pub command : option_map (λ word. word.1) (slice_get words 0) ≡ Some fault.command.now
  pub word : slice_get words (word_of fault.cause) ≡ Some (fault.column, fault.word.now)

-- the same of the words of a line
abbrev pub IsPlaced : List ℕ → LineFault → Type 0
IsPlaced line fault = IsPlacedIn (placed_words line) fault
