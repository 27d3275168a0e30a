-- How the work of a call ends before its report is written, and the cause of each ending. The work
-- goes in this order: the words, reading, the size, the grammar, running. All this is the project's
-- own.
use Rattle.std.specs.Prelude.{◌≡◌, ◌⊎◌, Bool, true, false, ℕ, ◌+◌, ◌≤◌, List, [], length, Option, None, Some, Ok, Err}
use Rattle.hd_model.specs.{declared.command.Cmd.Cmd, declared.data.Entry.Entry, declared.data.RootId.RootId, declared.limits.TheConstants.MOST_BYTES, declared.limits.TheConstants.MOST_ROUNDS, Generated.load_numbers, Generated.generated_lists, Grammar.script_of, Grammar.AreLists, RootText.roots_of, State.Numbers}
use Rattle.hd_io.specs.declared.source.ReadFault.{ReadFault}
use Rattle.hd_io.specs.declared.source.ReadFault.TheVariants as read_fault
use Rattle.hd_io.specs.Source.{SourceView, GaveAll, GaveCount, ReadBrokeOff}
use Rattle.hd_script.specs.declared.fault.ScriptFault.{ScriptFault}
use Rattle.hd_script.specs.declared.fault.ScriptFault.TheVariants as script_fault
use Rattle.hd_world.specs.World.{WorldView}
use Rattle.hd_run.specs.{declared.fault.Fault.Fault, declared.ending.Ran.Ran, declared.ending.Ending.Ending, declared.mode.Manner.Manner, declared.outcome.Kept.Kept, declared.request.Request.Request, Bounds.numbers_for, Modes.traits_of, Turns.RanWhole, Turns.StoppedAt, Together.RanAllTogether, Together.StoppedTogether}
use Rattle.hd_run.specs.declared.fault.Fault.TheVariants.{Usage, Unread, OverSize, BadLine, NoMemory}
use Rattle.hd_run.specs.declared.ending.Ran.TheVariants as ran
use Rattle.hd_run.specs.declared.ending.Ending.TheVariants.{Refused, Stopped, Done}
use Rattle.hd_run.specs.declared.outcome.Kept.TheVariants.{Nothing, Alone, Shared}

-- the world of what is kept
abbrev pub world_of : Kept → Option WorldView
world_of Nothing = None
world_of (Alone w) = Some w
world_of (Shared w) = Some w

-- the journal of a world, if there is one
abbrev pub journal_in : Option WorldView → List Entry
journal_in None = []
journal_in (Some w) = w.journal

-- the world that ran a script
abbrev pub world_that : Ran → WorldView
world_that (ran.Alone w) = w
world_that (ran.Shared w) = w

-- what is kept of a run
abbrev pub kept_that : Ran → Kept
kept_that (ran.Alone w) = Alone w
kept_that (ran.Shared w) = Shared w

-- what an ending keeps
abbrev pub kept_of : Ending → Kept
kept_of (Refused fault) = Nothing
kept_of (Stopped run) = kept_that run
kept_of (Done run roots) = kept_that run

-- why nothing was run, where not all was read
abbrev pub unread_fault : ReadFault → Fault
unread_fault read_fault.Failed = Unread
unread_fault read_fault.TooLong = OverSize
unread_fault read_fault.Memory = NoMemory

-- and where no script was made of the bytes
abbrev pub unparsed_fault : ScriptFault → Fault
unparsed_fault (script_fault.Line k) = BadLine k
unparsed_fault script_fault.Memory = NoMemory

-- the source was read to its end, within the limit, and gave these bytes
pub record ReadWhole (old new : SourceView) (bytes : List ℕ) : Type 0 where
  pub all : GaveAll old new bytes
  pub within : length bytes ≤ MOST_BYTES

-- the source was read to its end, and this is true of its bytes
abbrev pub ReadBytes : SourceView → SourceView → (List ℕ → Type 0) → Type 0
ReadBytes old new IsSo = (bytes : List ℕ) × ReadWhole old new bytes × IsSo bytes

-- the bytes are a program with these lists
pub record IsProgram (bytes : List ℕ) (lists : List (List Cmd)) : Type 0 where
  pub script : script_of bytes ≡ Ok lists
  pub shape : AreLists lists

-- the source was read to its end, and its bytes are a program with these lists
pub record ReadProgram (old new : SourceView) (lists : List (List Cmd)) : Type 0 where
  pub bytes : List ℕ
  pub read : ReadWhole old new bytes
  pub program : IsProgram bytes lists

-- the script of a load of this number of rounds
pub record IsLoadScript (rounds : ℕ) (lists : List (List Cmd)) : Type 0 where
  pub least : 1 ≤ rounds
  pub most : rounds ≤ MOST_ROUNDS
  pub lists_are : lists ≡ generated_lists rounds

-- the lists that are run, by whether the mode reads: those of the bytes that were read; or nothing is read,
-- and they are those of a load
abbrev pub ScriptBy : Bool → Request → SourceView → SourceView → List (List Cmd) → Type 0
ScriptBy true r old new lists = ReadProgram old new lists
ScriptBy false r old new lists = (new ≡ old) × IsLoadScript r.rounds lists

-- the numbers of their run: a load has those of every load
abbrev pub numbers_by : Bool → Request → List (List Cmd) → Numbers
numbers_by true r lists = numbers_for r.limits lists
numbers_by false r lists = load_numbers

-- the world that ran a script, by whether its callers had threads: P is true of that of one thread, and Q of
-- one that they shared
abbrev pub RunBy : Bool → (WorldView → Type 0) → (WorldView → Type 0) → Ran → Type 0
RunBy false P Q (ran.Alone w) = P w
RunBy false P Q (ran.Shared w) = ⊥
RunBy true P Q (ran.Alone w) = ⊥
RunBy true P Q (ran.Shared w) = Q w

-- the whole script was run
abbrev pub RanBy : Bool → Numbers → List (List Cmd) → Ran → Type 0
RanBy threads n lists run = RunBy threads (RanWhole n lists) (RanAllTogether n lists) run

-- the run stopped at commands that may take memory
abbrev pub StoppedAtBy : Bool → Numbers → List (List Cmd) → Ran → Type 0
StoppedAtBy threads n lists run = RunBy threads (StoppedAt n lists) (StoppedTogether n lists) run

-- or, where roots are to be listed, it may have been whole, since their list takes memory too
abbrev pub StoppedBy : Bool → Bool → Numbers → List (List Cmd) → Ran → Type 0
StoppedBy threads false n lists run = StoppedAtBy threads n lists run
StoppedBy threads true n lists run = StoppedAtBy threads n lists run ⊎ RanBy threads n lists run

-- the roots that are listed of a world, if they are to be
abbrev pub roots_by : Bool → WorldView → Option (List RootId)
roots_by false w = None
roots_by true w = Some (roots_of w.state)

-- The cause of each fault of reading, by which line of the bytes is at fault. Out of memory is free.
abbrev pub CauseOfFault : (List ℕ → ℕ → Type 0) → SourceView → SourceView → Fault → Type 0
CauseOfFault IsAtFault old new Usage = ⊥
CauseOfFault IsAtFault old new Unread = ReadBrokeOff old new MOST_BYTES
CauseOfFault IsAtFault old new OverSize = GaveCount old new (λ n. n ≡ MOST_BYTES + 1)
CauseOfFault IsAtFault old new (BadLine k) = ReadBytes old new (λ bytes. IsAtFault bytes k)
CauseOfFault IsAtFault old new NoMemory = GaveCount old new (λ n. n ≤ MOST_BYTES)

-- and of reading a script
abbrev pub FaultCause : SourceView → SourceView → Fault → Type 0
FaultCause old new fault = CauseOfFault (λ bytes k. script_of bytes ≡ Err k) old new fault

-- why no run is kept, by whether the mode reads: one that reads nothing is kept from a run by memory alone
abbrev pub RefusedBy : Bool → SourceView → SourceView → Fault → Type 0
RefusedBy true old new fault = FaultCause old new fault
RefusedBy false old new fault = (fault ≡ NoMemory) × (new ≡ old)

-- The cause of each ending of a run of these lists, by the manner of the run. Out of memory is free where no
-- world is kept.
abbrev pub RunCause : Manner → Numbers → List (List Cmd) → Ending → Type 0
RunCause m n lists (Refused fault) = fault ≡ NoMemory
RunCause m n lists (Stopped run) = StoppedBy m.threads m.lists_roots n lists run
RunCause m n lists (Done run roots) =
    RanBy m.threads n lists run × (roots ≡ roots_by m.lists_roots (world_that run))

-- there was a script, read whole or made, and the run of it has its cause
abbrev pub RunsFor : Bool → Manner → Request → SourceView → SourceView → Ending → Type 0
RunsFor reads m r old new ending = (lists : List (List Cmd)) × ScriptBy reads r old new lists
    × RunCause m (numbers_by reads r lists) lists ending

-- the cause of each ending of a request, by whether its mode reads, and by the manner of its run
abbrev pub CauseBy : Bool → Manner → Request → SourceView → SourceView → Ending → Type 0
CauseBy reads m r old new (Refused fault) = RefusedBy reads old new fault
CauseBy reads m r old new (Stopped run) = RunsFor reads m r old new (Stopped run)
CauseBy reads m r old new (Done run roots) = RunsFor reads m r old new (Done run roots)

-- The cause of each ending, by what the words ask for. Words that aren't valid are refused unread; memory may
-- run out as they are read.
abbrev pub Cause : Option Request → SourceView → SourceView → Ending → Type 0
Cause None old new ending = ((ending ≡ Refused Usage) ⊎ (ending ≡ Refused NoMemory)) × (new ≡ old)
Cause (Some r) old new ending =
    let t = traits_of r.mode in CauseBy t.reads t.manner r old new ending
