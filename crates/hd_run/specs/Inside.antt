-- What private clauses alone cite.
use Rattle.std.specs.Prelude.{◌≡◌, ℕ, ◌≤◌, List, [], length, sum_by, ◌<◌, ◌++◌, map, slice_index_or, ◌⊎◌, Bool, true, false, None, Some, Result, Ok, Err, ◌^◌, MatchResult, All, ◌≢◌, codes, Option}
use Rattle.hd_model.specs.{declared.command.Cmd.Cmd, State.Numbers, State.start_of, Run.commands_of, RootText.roots_of, declared.data.Entry.Entry, Generated.value_returned}
use Rattle.hd_model.specs.declared.limits.TheConstants.{CALLERS, HEAP, BLOCKS, MOST_ROUNDS}
use Rattle.hd_world.specs.World.{WorldView}
use Rattle.hd_custody.specs.Views.{Named}
use Rattle.hd_gate.specs.Shared.{CallerView, AreAll, Begin, IsCallerOf, IsSameCaller}
use Rattle.hd_script.specs.{declared.fault.ScriptFault.ScriptFault, AuditInput.IsNoAuditInput}
use Rattle.hd_io.specs.Sink.{SinkView, Took, WriteBrokeOff}
use Rattle.hd_audit.specs.declared.lines.Verdict.{Verdict}
use Rattle.clap.specs.Words.{App, IsUnsignedIn, Text, new_app, one_text, with_rule}
use Rattle.clap.specs.{declared.error.kind.ErrorKind.ErrorKind, declared.error.kind.ErrorKind.TheVariants.OutOfMemory, declared.parser.matches.Found.Found}
use Rattle.hd_io.specs.Source.{SourceView}
use Rattle.hd_run.specs.Turns.{turns_from, RanUpTo, list_of}
use Rattle.hd_run.specs.Words.{mode_rule, number_rule}
use Rattle.hd_run.specs.{Together.MayRunOut, declared.fault.Fault.Fault, declared.ending.Ran.Ran, declared.ending.Ending.Ending, declared.mode.Output.Output, declared.mode.Output.TheVariants.Lines, declared.mode.Output.TheVariants.Summary, declared.audit.Finding.Finding, Bounds.Bounds, Bounds.numbers_for, declared.audit.Finding.TheVariants.Right, declared.audit.Finding.TheVariants.WrongAt, Audit.HasRun, Audit.HasNoRun, declared.limits.TheConstants.LEAST_HEAP, declared.request.Request.Request, declared.mode.Manner.Manner, Modes.traits_of}
use Rattle.hd_run.specs.declared.ending.Ending.TheVariants.{Refused, Stopped, Done}
use Rattle.hd_run.specs.Ending.{world_that, unparsed_fault, kept_of, world_of, journal_in, ScriptBy, numbers_by, CauseBy}
use Rattle.hd_run.specs.declared.fault.Fault.TheVariants.{Usage, Unread, OverSize, BadLine, NoMemory}
use Rattle.hd_audit.specs.declared.lines.Verdict.TheVariants as verdict
use Rattle.hd_run.specs.declared.audit.Finding.TheVariants as finding

-- ---- what is found

-- what a verdict comes to
abbrev pub finding_of : Verdict → Finding
finding_of verdict.Run = Right
finding_of (verdict.NotRun line) = WrongAt line
finding_of verdict.Memory = finding.Refused NoMemory

-- what is found in bytes; out of memory means nothing for them
abbrev pub FindsIn : Bounds → List ℕ → Finding → Type 0
FindsIn b bytes (finding.Refused Usage) = ⊥
FindsIn b bytes (finding.Refused Unread) = ⊥
FindsIn b bytes (finding.Refused OverSize) = ⊥
FindsIn b bytes (finding.Refused (BadLine k)) = IsNoAuditInput bytes k
FindsIn b bytes (finding.Refused NoMemory) = Unit {0}
FindsIn b bytes Right = HasRun b bytes
FindsIn b bytes (WrongAt line) = HasNoRun b bytes line

-- ---- runs of callers one after another, as lists of turns: a caller and a command. That callers are
-- taken so is this project's own.

-- a world that has turns left, and room for their entries
pub record IsReadyFor (n : Numbers) (lists : List (List Cmd)) (left : List (ℕ × Cmd))
    (w : WorldView) : Type 0 where
  pub ran : RanUpTo n lists left w
  pub room : length left ≤ w.spare

-- an empty world for a script of at most as many callers as a world may have, with these numbers and room for
-- all its commands
pub record IsOpenFor (lists : List (List Cmd)) (n : Numbers) (w : WorldView) : Type 0 where
  pub numbers : w.numbers ≡ n
  pub empty : w.journal ≡ []
  pub state : w.state ≡ start_of w.numbers
  pub room : w.spare ≡ sum_by length lists
  pub few : length lists ≤ CALLERS

-- an empty world for a script, of at most as many callers as a world may have, with all its turns left
pub record IsReadyToRun (lists : List (List Cmd)) (w : WorldView) : Type 0 where
  pub few : length lists ≤ CALLERS
  pub callers : w.numbers.callers ≡ length lists
  pub ready : IsReadyFor w.numbers lists (turns_from 0 lists) w

-- ---- runs of callers in threads: what each caller has done of its list. That a caller does its list in its order
-- is this project's own.

-- A caller that had done nothing did a prefix of its list, and has room for the rest, which is none or begins
-- with a command that may take memory.
pub record HasPlayed (list : List Cmd) (old new : CallerView) : Type 0 where
  pub same : IsSameCaller old new
  pub left : List Cmd
  pub parts : list ≡ commands_of new.part ++ left
  pub room : length left ≡ new.room
  pub wants : MayRunOut left

-- each of the callers did so with its list
pub record HavePlayed (lists : List (List Cmd)) (old new : List CallerView) : Type 0 where
  pub count : length new ≡ length old
  pub each : (c : ℕ) (d : CallerView) → c < length old →
      HasPlayed (list_of lists (slice_index_or old c d).number) (slice_index_or old c d)
      (slice_index_or new c d)

-- a caller of the shared world that has done nothing, and has room for its list
pub record IsReadyToPlay (s : Named) (lists : List (List Cmd)) (p : CallerView) : Type 0 where
  pub is_of : IsCallerOf s p
  pub known : p.number < length lists
  pub part : p.part ≡ []
  pub room : p.room ≡ length (list_of lists p.number)

-- the callers of a shared world, one for each list and of at most as many as a world may have, have done
-- nothing and have room for their lists
pub record AreReadyToPlay (lists : List (List Cmd)) (s : Named) (callers : List CallerView) : Type 0 where
  pub few : length lists ≤ CALLERS
  pub as_many : s.numbers.callers ≡ length lists
  pub all : AreAll s callers
  pub begin : Begin (map length lists) callers

-- ---- how the work of a call ends before its report is written, and the cause of each ending. The work
-- goes in this order: the words, reading, the size, the grammar, running. All this is the project's
-- own.

-- the ending of a run that keeps its world, by whether it was whole
abbrev pub run_ending : Bool → Ran → Ending
run_ending true run = Done run None
run_ending false run = Stopped run

-- an ending once roots were to be listed: those of a world that ran its whole script, unless memory ran out
abbrev pub Lists : Ending → Ending → Type 0
Lists (Refused fault) after = after ≡ Refused fault
Lists (Stopped run) after = after ≡ Stopped run
Lists (Done run roots) after =
    (after ≡ Stopped run) ⊎ (after ≡ Done run (Some (roots_of (world_that run).state)))

-- an ending that keeps the world that ran
abbrev pub Keeps : Ending → Type 0
Keeps (Refused fault) = ⊥
Keeps (Stopped run) = Unit {0}
Keeps (Done run roots) = Unit {0}

-- what bytes come to: the lists of a script, or why there are none
abbrev pub script_or_fault : Result (List (List Cmd)) ScriptFault → Result (List (List Cmd)) Fault
script_or_fault (Ok lists) = Ok lists
script_or_fault (Err fault) = Err (unparsed_fault fault)

-- ---- what a call writes and returns. The texts and the statuses are this project's own

-- the sink took all of a text; or a write failed, after a prefix of it
abbrev pub Writes : {T E : Type 0} → SinkView → SinkView → List ℕ → Result T E → Type 0
Writes old new text result =
    MatchResult result (λ _. Took old new text) (λ _. WriteBrokeOff old new text)

-- the numbers of callers are below their limit
abbrev pub HasFewCallers : List Entry → Type 0
HasFewCallers journal = All (λ (e : Entry). e.caller < CALLERS) journal

-- the sum that a load reports fits in 64 bits
abbrev pub HasSum : Output → WorldView → Type 0
HasSum (Lines form) w = Unit {0}
HasSum Summary w = sum_by (λ (e : Entry). value_returned e.reply) w.journal < 2 ^ 64

abbrev pub HasSumOf : Output → Ending → Type 0
HasSumOf output (Refused fault) = Unit {0}
HasSumOf output (Stopped run) = Unit {0}
HasSumOf output (Done run roots) = HasSum output (world_that run)

-- the text of an ending can be written
pub record IsWritable (output : Output) (ending : Ending) : Type 0 where
  pub callers : HasFewCallers (journal_in (world_of (kept_of ending)))
  pub sum : HasSumOf output ending

-- ---- what the words of a command line ask for. The modes, the options and their limits are this project's own;
-- which words a command takes, and which values it finds in them, is as `clap` has it.

-- why words are refused: memory ran out, or they ask for nothing
abbrev pub IsFaultOfWords : Option Request → Fault → Type 0
IsFaultOfWords asked fault = (fault ≡ NoMemory) ⊎ ((fault ≡ Usage) × (asked ≡ None))

-- what is asked for, or that nothing is
abbrev pub request_or_usage : Option Request → Result Request Fault
request_or_usage None = Err Usage
request_or_usage (Some request) = Ok request

-- why the command does not take words, by the kind of its error: memory ran out in it, or they are not valid
abbrev pub IsRefusal : ErrorKind → Fault → Type 0
IsRefusal kind fault =
    ((fault ≡ NoMemory) × (kind ≡ OutOfMemory)) ⊎ ((fault ≡ Usage) × (kind ≢ OutOfMemory))

-- the command as it is made: a mode, then also the limit of the heap, and that of the table
abbrev pub with_mode : App
with_mode = with_rule (new_app (codes "hdt")) mode_rule

abbrev pub with_heap : App
with_heap = with_rule with_mode (number_rule (codes "heap") LEAST_HEAP HEAP)

abbrev pub with_blocks : App
with_blocks = with_rule with_heap (number_rule (codes "blocks") 1 BLOCKS)

-- the rounds are ones that a load may have
pub record IsInLimits (request : Request) : Type 0 where
  pub least : 1 ≤ request.rounds
  pub most : request.rounds ≤ MOST_ROUNDS

-- what was found for an option, if anything, is a number within limits
abbrev pub GivesNumber : Found → Text → ℕ → ℕ → Type 0
GivesNumber found name least most =
    (text : Text) → one_text found name ≡ Some text → IsUnsignedIn least most text

pub record GivesNumbers (found : Found) : Type 0 where
  pub heap : GivesNumber found (codes "heap") LEAST_HEAP HEAP
  pub blocks : GivesNumber found (codes "blocks") 1 BLOCKS
  pub rounds : GivesNumber found (codes "rounds") 1 MOST_ROUNDS

-- ---- what is done between the words and the report

-- the script that was asked for, and limits that give its run the numbers of its mode
pub record IsJob (r : Request) (old new : SourceView) (job : List (List Cmd) × Bounds) : Type 0 where
  pub script : ScriptBy (traits_of r.mode).reads r old new job.0
  pub numbers : numbers_for job.1 job.0 ≡ numbers_by (traits_of r.mode).reads r job.0

-- the work ended with its cause, and read nothing where nothing is to be read
pub record Worked {S : Type 0} (seen : S → SourceView) (m : Manner) (r : Request) (source : S × S)
    (ending : Ending) : Type 0 where
  pub cause : CauseBy (traits_of r.mode).reads m r (seen source.0) (seen source.1) ending
  pub unread : (traits_of r.mode).reads ≡ false → source.1 ≡ source.0
