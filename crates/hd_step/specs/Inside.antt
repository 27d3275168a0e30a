-- What private clauses alone cite.
use Rattle.std.specs.Prelude.{◌≡◌, ◌↔◌, ℕ, ◌+◌, ◌≤◌, ◌⊎◌, true, List, ◌++◌, length, position, IsSome, MatchOption, ◌<◌, false, [], Option, Some, None, slice_index, slice_set, count_by, ◌==◌, Bool, map}
use Rattle.hd_io.specs.Source.{SourceView, Gave, GaveAll}
use Rattle.hd_model.specs.Grammar.{is_line_end, Reading, blank, caller, command, reading_of, lines_in}
use Rattle.hd_io.specs.Sink.{SinkView, Took, WriteBrokeOff}
use Rattle.hd_io.specs.declared.source.ReadFault.{ReadFault}
use Rattle.hd_model.specs.{declared.command.Cmd.Cmd, declared.data.Entry.Entry, declared.data.Reply.Reply, declared.limits.TheConstants.CALLERS, declared.limits.TheConstants.MOST_BYTES, declared.limits.TheConstants.MOST_COMMANDS, Text.entry_text, Text.lines_of, Run.Run, State.Numbers}
use Rattle.hd_step.specs.{Hand.Hand, declared.progress.Progress.Progress, declared.stop.Stop.Stop, Machine.MachineView, Machine.HasDone}
use Rattle.hd_step.specs.Dialogue.{is_own, AreAnswered, Exchange, HasBad, IsOfRunThroughout, lines_of_all, replies_of_all, text_of_all, said_by, turn_of}
use Rattle.hd_io.specs.declared.source.ReadFault.TheVariants as fault
use Rattle.hd_step.specs.declared.stop.Stop.TheVariants as stop

-- ---- what is at hand of a source: the bytes that were read and are in no line that was taken

-- the end of the first line is at hand
abbrev pub HasLine : Hand → Type 0
HasLine h = IsSome (position is_line_end h.bytes)

-- the first line at hand, with its end, has n bytes; or they are all that the source had
abbrev pub IsFirst : Hand → ℕ → Type 0
IsFirst h n = MatchOption (position is_line_end h.bytes) ((h.ended ≡ true) × (n ≡ length h.bytes))
    (λ end. n ≡ end + 1)

-- the source gave bytes, which are at hand behind the others
pub record Filled (old new : Hand) (before after : SourceView) : Type 0 where
  pub read : List ℕ
  pub gave : Gave before after read
  pub hand : new.bytes ≡ old.bytes ++ read
  pub room : new.room + length read ≡ old.room

-- ---- what one line of a dialogue does

-- the entries of each caller are counted
abbrev pub AreCounts : List Entry → List ℕ → Type 0
AreCounts journal counts =
    (c : ℕ) → c < CALLERS → slice_index counts c ≡ count_by (λ (e : Entry). e.caller == c) journal

-- a dialogue may go on: a machine of all callers has room for what is left of the commands of a script
pub record IsReady (w : MachineView) (p : Progress) : Type 0 where
  pub callers : w.numbers.callers ≡ CALLERS
  pub caller : p.caller < CALLERS
  pub slots : length p.counts ≡ CALLERS
  pub counts : AreCounts w.journal p.counts
  pub room : w.spare + length w.journal ≡ MOST_COMMANDS

-- a line was left out
pub record LeftOut (w v : MachineView) (p q : Progress) (text : List ℕ) : Type 0 where
  pub machine : v ≡ w
  pub progress : q ≡ record p { is_bad = true }
  pub silent : text ≡ []

-- a line says whose commands follow
pub record Noted (caller : ℕ) (w v : MachineView) (p q : Progress) (text : List ℕ) : Type 0 where
  pub small : caller < CALLERS
  pub machine : v ≡ w
  pub progress : q ≡ record p { caller = caller }
  pub silent : text ≡ []

-- a command was done, and the text is the line of its entry
pub record Called (c : Cmd) (w v : MachineView) (p q : Progress) (text : List ℕ) : Type 0 where
  pub answer : Reply
  pub done : HasDone w v p.caller c answer
  pub number : ℕ
  pub next : number ≡ slice_index p.counts p.caller + 1
  pub progress : q ≡ record p { counts = slice_set p.counts p.caller number }
  pub line : text ≡ entry_text done.entry number

-- where there is room for it
pub record Commanded (c : Cmd) (w v : MachineView) (p q : Progress) (text : List ℕ) : Type 0 where
  pub done : 0 < w.spare → Called c w v p q text
  pub full : w.spare ≡ 0 → LeftOut w v p q text

-- what a line does that has this reading, or none
abbrev pub AfterReading :
    Option Reading → MachineView → MachineView → Progress → Progress → List ℕ → Type 0
AfterReading None w v p q text = LeftOut w v p q text
AfterReading (Some blank) w v p q text = Noted p.caller w v p q text
AfterReading (Some (caller n)) w v p q text = Noted n w v p q text
AfterReading (Some (command c)) w v p q text = Commanded c w v p q text

-- one of a dialogue's own words was answered, or its operand was at fault, which changes nothing else
pub record Answered (A : MachineView → List (List ℕ) → List ℕ → Type 0) (F : List (List ℕ) → Type 0)
    (words : List (List ℕ)) (w v : MachineView) (p q : Progress) (text : List ℕ) : Type 0 where
  pub machine : v ≡ w
  pub progress : q ≡ record p { is_bad = q.is_bad }
  pub says : (F words × (q.is_bad ≡ true) × (text ≡ []))
      ⊎ ((F words → ⊥) × (q.is_bad ≡ p.is_bad) × A w words text)

-- what a line with these words does
pub record AfterWords (A : MachineView → List (List ℕ) → List ℕ → Type 0) (F : List (List ℕ) → Type 0)
    (words : List (List ℕ)) (w v : MachineView) (p q : Progress) (text : List ℕ) : Type 0 where
  pub own : is_own words ≡ true → Answered A F words w v p q text
  pub other : is_own words ≡ false → AfterReading (reading_of words) w v p q text

-- a line was done, and its text was written
pub record LineDone (A : MachineView → List (List ℕ) → List ℕ → Type 0) (F : List (List ℕ) → Type 0)
    (words : List (List ℕ)) (w v : MachineView) (p q : Progress) (old new : SinkView) : Type 0 where
  pub text : List ℕ
  pub after : AfterWords A F words w v p q text
  pub took : Took old new text

-- a line was done, and a write of its text failed
pub record LineBroke (A : MachineView → List (List ℕ) → List ℕ → Type 0) (F : List (List ℕ) → Type 0)
    (words : List (List ℕ)) (w v : MachineView) (p q : Progress) (old new : SinkView) : Type 0 where
  pub text : List ℕ
  pub after : AfterWords A F words w v p q text
  pub broke : WriteBrokeOff old new text

-- why a line was not done to its end: out of memory comes before anything is written
abbrev pub LineStopped : (MachineView → List (List ℕ) → List ℕ → Type 0) → (List (List ℕ) → Type 0)
    → List (List ℕ) → MachineView → MachineView → Progress → Progress → SinkView → SinkView → Stop → Type 0
LineStopped A F words w v p q old new stop.Unread = ⊥
LineStopped A F words w v p q old new stop.TooLong = ⊥
LineStopped A F words w v p q old new stop.Memory = new ≡ old
LineStopped A F words w v p q old new stop.Unwritten = LineBroke A F words w v p q old new

-- the end of a dialogue where not all was read
abbrev pub stop_of : ReadFault → Stop
stop_of fault.Failed = stop.Unread
stop_of fault.TooLong = stop.TooLong
stop_of fault.Memory = stop.Memory

-- ---- how far the lines of a dialogue have come

-- a machine's journal is the run of these lines, and what was written are its lines
pub record IsRunBy (A : MachineView → List (List ℕ) → List ℕ → Type 0) (F : List (List ℕ) → Type 0) (n : Numbers)
    (exchanges : List Exchange) (w : MachineView) : Type 0 where
  pub numbers : w.numbers ≡ n
  pub run : Run n w.journal w.state
  pub turns : map turn_of w.journal ≡ (said_by (lines_of_all exchanges)).turns
  pub text : replies_of_all exchanges ≡ lines_of w.journal
  pub answered : AreAnswered A F n w.journal exchanges
  pub throughout : IsOfRunThroughout A F n exchanges

-- behind the last line
pub record IsOver (A : MachineView → List (List ℕ) → List ℕ → Type 0) (F : List (List ℕ) → Type 0) (n : Numbers)
    (source after : SourceView) (out new : SinkView) (w : MachineView) (bad : Bool) : Type 0 where
  pub exchanges : List Exchange
  pub bytes : List ℕ
  pub read : GaveAll source after bytes
  pub within : length bytes ≤ MOST_BYTES
  pub lines : lines_in bytes ≡ lines_of_all exchanges
  pub ran : IsRunBy A F n exchanges w
  pub is_bad : (bad ≡ true) ↔ HasBad F exchanges
  pub wrote : Took out new (text_of_all exchanges)
