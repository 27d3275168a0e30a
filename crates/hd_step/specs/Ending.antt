-- How a dialogue ends. Its own words are answered by `A`, of a machine, the words and a text, and `F` says which
-- words have an operand at fault.
use Rattle.std.specs.Prelude.{◌≡◌, ◌↔◌, ℕ, ◌+◌, ◌≤◌, ◌⊎◌, Bool, true, List, [], ◌∷◌, ◌++◌}
use Rattle.std.specs.Io.KnownBytes.{IsAtEnd}
use Rattle.hd_io.specs.Sink.{SinkView, Took, WriteBrokeOff}
use Rattle.hd_io.specs.Source.{SourceView, GaveAll, GaveCount, ReadBrokeOff}
use Rattle.hd_model.specs.declared.limits.TheConstants.{MOST_BYTES}
use Rattle.hd_model.specs.FullText.{end_of}
use Rattle.hd_model.specs.Grammar.{lines_in}
use Rattle.hd_model.specs.State.{Numbers}
use Rattle.hd_step.specs.declared.stop.Stop.{Stop}
use Rattle.hd_step.specs.declared.stop.Stop.TheVariants as stop
use Rattle.hd_step.specs.Dialogue.{Exchange, HasBad, IsOfRun, IsOfRunThroughout, lines_of_all, text_of_all}
use Rattle.hd_step.specs.Machine.{MachineView}

-- The source was read to its end, line by line. After each line what was written is of a run of the lines so
-- far, and the end line of the whole run came last. `bad` is true exactly where a line was left out, or one of the
-- dialogue's own words had an operand at fault.
pub record Conversed (A : MachineView → List (List ℕ) → List ℕ → Type 0) (F : List (List ℕ) → Type 0) (n : Numbers)
    (source after : SourceView) (out new : SinkView) (bad : Bool) : Type 0 where
  pub bytes : List ℕ
  pub read : GaveAll source after bytes
  pub exchanges : List Exchange
  pub lines : lines_in bytes ≡ lines_of_all exchanges
  pub throughout : IsOfRunThroughout A F n exchanges
  pub whole : IsOfRun A F n exchanges
  pub wrote : Took out new (text_of_all exchanges ++ end_of whole.journal whole.state)
  pub is_bad : (bad ≡ true) ↔ HasBad F exchanges

-- the lines of exchanges are the first ones of bytes
abbrev pub AreFirst : List ℕ → List Exchange → Type 0
AreFirst bytes exchanges = (rest : List (List ℕ)) × (lines_in bytes ≡ lines_of_all exchanges ++ rest)

-- what was written after the first lines of the bytes that were read, each time of a run of the lines so far
pub record Replied (A : MachineView → List (List ℕ) → List ℕ → Type 0) (F : List (List ℕ) → Type 0) (n : Numbers)
    (bytes : List ℕ) (out new : SinkView) : Type 0 where
  pub exchanges : List Exchange
  pub first : AreFirst bytes exchanges
  pub throughout : IsOfRunThroughout A F n exchanges
  pub wrote : Took out new (text_of_all exchanges)

-- a text is that of one line more, or the end line behind all lines
abbrev pub IsNextText : (MachineView → List (List ℕ) → List ℕ → Type 0) → (List (List ℕ) → Type 0) → Numbers
    → List ℕ → SourceView → List Exchange → List ℕ → Type 0
IsNextText A F n bytes after exchanges text =
    ((x : Exchange) × (text ≡ x.text) × AreFirst bytes (exchanges ++ x ∷ [])
    × IsOfRunThroughout A F n (exchanges ++ x ∷ []))
    ⊎ (IsAtEnd after.left × (lines_in bytes ≡ lines_of_all exchanges)
    × ((whole : IsOfRun A F n exchanges) × (text ≡ end_of whole.journal whole.state)))

-- a write failed after them
pub record BrokeOff (A : MachineView → List (List ℕ) → List ℕ → Type 0) (F : List (List ℕ) → Type 0) (n : Numbers)
    (bytes : List ℕ) (after : SourceView) (out new : SinkView) : Type 0 where
  pub exchanges : List Exchange
  pub throughout : IsOfRunThroughout A F n exchanges
  pub text : List ℕ
  pub next : IsNextText A F n bytes after exchanges text
  pub broke : WriteBrokeOff out new (text_of_all exchanges ++ text)

-- what each early end says, of the bytes that the source gave by then
abbrev pub StoppedIn : (MachineView → List (List ℕ) → List ℕ → Type 0) → (List (List ℕ) → Type 0) → Numbers
    → SourceView → SourceView → SinkView → SinkView → Stop → Type 0
StoppedIn A F n source after out new stop.Unread =
    (read : ReadBrokeOff source after MOST_BYTES) × Replied A F n read.gave.bytes out new
StoppedIn A F n source after out new stop.TooLong =
    (read : GaveCount source after (λ count. count ≡ MOST_BYTES + 1)) × Replied A F n read.bytes out new
StoppedIn A F n source after out new stop.Memory =
    (read : GaveCount source after (λ count. count ≤ MOST_BYTES)) × Replied A F n read.bytes out new
StoppedIn A F n source after out new stop.Unwritten =
    (read : GaveCount source after (λ count. count ≤ MOST_BYTES)) × BrokeOff A F n read.bytes after out new
