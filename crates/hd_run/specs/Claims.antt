-- What a call promises, in the words of a user. Each claim follows from the ending, its cause and
-- its report. The statuses are this project's own.
use Rattle.std.specs.Prelude.{◌≡◌, ◌≢◌, true, false, ℕ, ◌+◌, ◌<◌, ◌⊎◌, List, [], ◌∷◌, length, Contains, Option, None, Some, IfSome, IsSomeAnd, IsErr}
use Rattle.std.specs.FinMap.{len}
use Rattle.hd_model.specs.{declared.command.Cmd.Cmd, declared.limits.TheConstants.MOST_BYTES, Grammar.script_of, Run.Run, Run.SoloRun, State.Numbers}
use Rattle.hd_model.specs.Laws.{count_entries, makes_handle, frees_handle}
use Rattle.hd_io.specs.{Counts.Rose, Source.SourceView, Source.GaveCount, Sink.SinkView, Sink.Took}
use Rattle.hd_script.specs.Load.{line_of_rounds}
use Rattle.hd_world.specs.World.{WorldView}
use Rattle.hd_run.specs.{declared.ending.Ending.Ending, declared.fault.Fault.TheVariants.NoMemory, declared.ending.Ran.Ran, declared.outcome.Kept.Kept, declared.outcome.Outcome.Outcome, declared.mode.Output.Output, declared.request.Request.Request, Together.RanAllTogether, Together.StoppedTogether, Modes.in_threads, Modes.traits_of}
use Rattle.hd_run.specs.declared.outcome.Kept.TheVariants.{Nothing, Alone, Shared}
use Rattle.hd_run.specs.Ending.{world_of, world_that, kept_that, ReadWhole, ScriptBy, RanBy, StoppedBy, RefusedBy, RunCause, numbers_by, journal_in, Cause}
use Rattle.hd_run.specs.Report.{whole_text, stopped_text, output_for, Reports, text_by}

-- There was a script, read whole or made. What ran all of it, as its mode does, is kept, and its text was
-- written.
abbrev pub RunsWhole : Option Request → SourceView → SourceView → SinkView → SinkView → Kept → Type 0
RunsWhole asked old new before after kept = IsSomeAnd asked (λ r. let t = traits_of r.mode in
    (lists : List (List Cmd)) × ScriptBy t.reads r old new lists
    × (run : Ran) × (kept ≡ kept_that run) × RanBy t.manner.threads (numbers_by t.reads r lists) lists run
    × Took before after (text_by r (world_that run)))

-- What was read where nothing is kept: at most the limit of bytes, and nothing where no mode asks for it. Of
-- a run it says nothing.
abbrev pub ReadAtMost : Option Request → SourceView → SourceView → Type 0
ReadAtMost None old new = new ≡ old
ReadAtMost (Some r) old new = RefusedBy (traits_of r.mode).reads old new NoMemory

-- Nothing is kept, be it that nothing was run or that a world was dropped; or there was a script, and what is
-- kept ran it up to commands that may take memory.
abbrev pub StopsForMemory : Option Request → SourceView → SourceView → Kept → Type 0
StopsForMemory asked old new kept =
    (ReadAtMost asked old new × (kept ≡ Nothing))
    ⊎ IsSomeAnd asked (λ r. let t = traits_of r.mode in
    (lists : List (List Cmd)) × ScriptBy t.reads r old new lists × (run : Ran) × (kept ≡ kept_that run)
    × StoppedBy t.manner.threads t.manner.lists_roots (numbers_by t.reads r lists) lists run)

-- bytes that are no program
abbrev pub IsNoProgram : List ℕ → Type 0
IsNoProgram bytes = IsErr (script_of bytes)

-- the source gave one byte more than the limit, or was read to its end and they are no program
abbrev pub RefusesScript : SourceView → SourceView → Type 0
RefusesScript old new =
    GaveCount old new (λ n. n ≡ MOST_BYTES + 1)
    ⊎ ((bytes : List ℕ) × ReadWhole old new bytes × IsNoProgram bytes)

-- the statuses that a call returns
abbrev pub IsStatus : ℕ → Type 0
IsStatus status = Contains (0 ∷ 2 ∷ 3 ∷ 4 ∷ 5 ∷ 6 ∷ []) status

-- words that are valid and name a mode that reads
abbrev pub AsksToRead : Option Request → Type 0
AsksToRead asked = IsSomeAnd asked (λ r. (traits_of r.mode).reads ≡ true)

-- words that are valid and name a mode that makes the script of a load: `load`
abbrev pub AsksForLoad : Option Request → Type 0
AsksForLoad asked = IsSomeAnd asked (λ r. (traits_of r.mode).reads ≡ false)

-- bytes that are refused: too many, or no program
abbrev pub AreBytesRefused : List ℕ → Type 0
AreBytesRefused bytes = (MOST_BYTES < length bytes) ⊎ IsNoProgram bytes

-- of bytes that were left the status is 3 where they are refused, and else 0, unless memory ran out
abbrev pub DecidesStatus : List ℕ → ℕ → Type 0
DecidesStatus bytes status =
    status ≢ 6 → ((status ≡ 3) × AreBytesRefused bytes) ⊎ ((status ≡ 0) × ¬ (AreBytesRefused bytes))

-- what is kept has a journal that is a run, and of callers in turn where one thread ran it
abbrev pub KeepsRun : Kept → Type 0
KeepsRun Nothing = Unit {0}
KeepsRun (Alone w) = SoloRun w.numbers w.journal w.state
KeepsRun (Shared w) = Run w.numbers w.journal w.state

-- its live handles are those that were made, less those that were freed
abbrev pub KeepsCount : Kept → Type 0
KeepsCount kept = IfSome (world_of kept) (λ w.
    len w.state.handles + count_entries frees_handle w.journal
    ≡ count_entries makes_handle w.journal)

-- on status 0 the line of a load of this number of rounds was written, in whatever order its callers came
abbrev pub HasLine : ℕ → SinkView → SinkView → ℕ → Type 0
HasLine rounds before after status = status ≡ 0 → Took before after (line_of_rounds rounds)

-- What a call promises, for what its words ask (`None`: they are not valid), by what was seen of
-- the source and the sink, each before it and after it.
pub record Promise {S K : Type 0} (seen : S → SourceView) (shown : K → SinkView)
    (asked : Option Request) (source : S × S) (sink : K × K) (o : Outcome) : Type 0 where
  -- whatever the words and the bytes: the work ended with a cause, and its ending is reported
  pub work : (ending : Ending) × Cause asked (seen source.0) (seen source.1) ending
      × Reports (shown sink.0) (shown sink.1) (output_for asked) ending o
  -- on status 0 the script was run whole, and its text is written
  pub whole : o.status ≡ 0 → RunsWhole asked (seen source.0) (seen source.1) (shown sink.0)
      (shown sink.1) o.kept
  -- each other status has a cause, and no other is returned
  pub usage : o.status ≡ 2 → (asked ≡ None) × (o.kept ≡ Nothing)
  pub script : o.status ≡ 3 → AsksToRead asked
      × RefusesScript (seen source.0) (seen source.1) × (o.kept ≡ Nothing)
  pub read : o.status ≡ 4 → AsksToRead asked
      × Rose (seen source.0).faults (seen source.1).faults × (o.kept ≡ Nothing)
  pub write : o.status ≡ 5 → Rose (shown sink.0).faults (shown sink.1).faults
  pub memory : o.status ≡ 6 → StopsForMemory asked (seen source.0) (seen source.1) o.kept
      × Took (shown sink.0) (shown sink.1) (stopped_text (output_for asked)
      (journal_in (world_of o.kept)))
  pub statuses : IsStatus o.status
  -- no fault of the source or the sink is passed over
  pub source_faults : o.status ≢ 4 → o.status ≢ 5 →
      (seen source.1).faults ≡ (seen source.0).faults
  pub sink_faults : o.status ≢ 5 → (shown sink.1).faults ≡ (shown sink.0).faults
  -- words that are not valid are refused, though that may fail to be written, and nothing is read; memory
  -- may run out before
  pub words : asked ≡ None →
      (source.1 ≡ source.0) × ((o.status ≡ 2) ⊎ (o.status ≡ 5) ⊎ (o.status ≡ 6))
  -- a load reads nothing, and its line is known; where the sink does not fail its status is 0 or 6
  pub load : AsksForLoad asked → source.1 ≡ source.0
  pub line : IfSome asked (λ r. (traits_of r.mode).reads ≡ false →
      HasLine r.rounds (shown sink.0) (shown sink.1) o.status)
  pub goes_on : AsksForLoad asked → ¬ (Rose (shown sink.0).faults (shown sink.1).faults) →
      (o.status ≡ 0) ⊎ (o.status ≡ 6)
  -- of valid words for a mode that reads, where nothing failed and the source states its bytes
  pub decides : AsksToRead asked →
      ¬ (Rose (seen source.0).faults (seen source.1).faults) →
      ¬ (Rose (shown sink.0).faults (shown sink.1).faults) →
      (bytes : List ℕ) → (seen source.0).left ≡ Some bytes → DecidesStatus bytes o.status
  -- whatever the status: the journal of what is kept is a run, and its live handles are those that were made,
  -- less those that were freed
  pub journal : KeepsRun o.kept
  pub handles : KeepsCount o.kept

-- What `run` promises of callers in threads over these lists, and so does `load`, which writes one line.
pub record Together {K : Type 0} (shown : K → SinkView) (output : Output) (n : Numbers)
    (lists : List (List Cmd)) (sink_old sink_new : K) (o : Outcome) : Type 0 where
  -- whatever happens: the run ended with a cause, and its ending is reported
  pub work : (ending : Ending) × RunCause in_threads n lists ending
      × Reports (shown sink_old) (shown sink_new) output ending o
  -- on status 0 each caller did its whole list, in the journal of one run, and its text is written
  pub whole : o.status ≡ 0 → (w : WorldView) × (o.kept ≡ Shared w) × RanAllTogether n lists w
      × Took (shown sink_old) (shown sink_new) (whole_text output w)
  -- each other status has a cause, and no other is returned
  pub write : o.status ≡ 5 → Rose (shown sink_old).faults (shown sink_new).faults
  pub memory : o.status ≡ 6 →
      ((o.kept ≡ Nothing) ⊎ ((w : WorldView) × (o.kept ≡ Shared w) × StoppedTogether n lists w))
      × Took (shown sink_old) (shown sink_new) (stopped_text output (journal_in (world_of o.kept)))
  pub statuses : Contains (0 ∷ 5 ∷ 6 ∷ []) o.status
  pub sink_faults : o.status ≢ 5 → (shown sink_new).faults ≡ (shown sink_old).faults
  -- whatever the status: the journal of what is kept is a run, and its live handles are those that were made,
  -- less those that were freed
  pub journal : KeepsRun o.kept
  pub handles : KeepsCount o.kept
