-- What a call writes and returns. The texts and the statuses are this project's own.
use Rattle.std.specs.Prelude.{◌≡◌, ℕ, List, ◌++◌, ◌⊎◌, codes, decimal, Option, None, Some}
use Rattle.hd_model.specs.{declared.data.Entry.Entry, declared.data.RootId.RootId, Generated.load_text_of, RootText.list_text}
use Rattle.hd_model.specs.Text.{newline, text_of}
use Rattle.hd_model.specs.FullText.{full_text_of}
use Rattle.hd_io.specs.Sink.{SinkView, Took, WriteBrokeOff}
use Rattle.hd_print.specs.EntryLines.{lines_by}
use Rattle.hd_print.specs.declared.entries.Form.TheVariants.{Plain, Full}
use Rattle.hd_world.specs.World.{WorldView}
use Rattle.hd_run.specs.{declared.fault.Fault.Fault, declared.ending.Ending.Ending, declared.outcome.Outcome.Outcome, declared.mode.Output.Output, declared.mode.Output.TheVariants.Lines, declared.mode.Output.TheVariants.Summary, declared.request.Request.Request, Modes.traits_of, Modes.output_of}
use Rattle.hd_run.specs.declared.fault.Fault.TheVariants.{Usage, Unread, OverSize, BadLine, NoMemory}
use Rattle.hd_run.specs.declared.ending.Ending.TheVariants.{Refused, Stopped, Done}
use Rattle.hd_run.specs.Ending.{world_that, kept_of, roots_by}

-- the status of each fault, and of each ending
abbrev pub fault_status : Fault → ℕ
fault_status Usage = 2
fault_status Unread = 4
fault_status OverSize = 3
fault_status (BadLine k) = 3
fault_status NoMemory = 6

abbrev pub status_of : Ending → ℕ
status_of (Refused fault) = fault_status fault
status_of (Stopped run) = 6
status_of (Done run roots) = 0

-- the line of each fault
abbrev pub memory_text : List ℕ
memory_text = codes "fault memory" ++ newline

abbrev pub fault_text : Fault → List ℕ
fault_text Usage =
    codes "usage: hdt solo|run|load|roots|audit [--heap CELLS] [--blocks COUNT] [--rounds N] [--slots]"
    ++ newline
fault_text Unread = codes "fault read" ++ newline
fault_text OverSize = codes "fault size" ++ newline
fault_text (BadLine k) = codes "fault line " ++ decimal k ++ newline
fault_text NoMemory = memory_text

-- what is written where memory ran out: the entries so far and its line, or its line alone
abbrev pub stopped_text : Output → List Entry → List ℕ
stopped_text (Lines form) journal = lines_by form journal ++ memory_text
stopped_text Summary journal = memory_text

-- what is written of a whole run: the text of its journal, plain or full, or the line of a load
abbrev pub whole_text : Output → WorldView → List ℕ
whole_text (Lines Plain) w = text_of w.journal w.state
whole_text (Lines Full) w = full_text_of w.journal w.state
whole_text Summary w = load_text_of w.journal w.state

-- what is written of what ran: after that the lines of the roots, where they were listed
abbrev pub ran_text : Output → WorldView → Option (List RootId) → List ℕ
ran_text output w None = whole_text output w
ran_text output w (Some roots) = whole_text output w ++ list_text roots

-- what is written of a whole run for a request
abbrev pub text_by : Request → WorldView → List ℕ
text_by r w = ran_text (output_of r) w (roots_by (traits_of r.mode).manner.lists_roots w)

-- what each ending writes
abbrev pub text_for : Output → Ending → List ℕ
text_for output (Refused fault) = fault_text fault
text_for output (Stopped run) = stopped_text output (world_that run).journal
text_for output (Done run roots) = ran_text output (world_that run) roots

-- how the run of a request is written, and how a refusal of the words is
abbrev pub output_for : Option Request → Output
output_for None = Lines Plain
output_for (Some r) = output_of r

-- all of a text is written and its own status returned; or a write failed after a prefix of the text, and the
-- status is 5
abbrev pub IsReported : SinkView → SinkView → ℕ → List ℕ → ℕ → Type 0
IsReported old new own text status =
    ((status ≡ own) × Took old new text) ⊎ ((status ≡ 5) × WriteBrokeOff old new text)

-- the ending is reported, and what it keeps is kept
pub record Reports (old new : SinkView) (output : Output) (ending : Ending) (o : Outcome) : Type 0 where
  pub kept : o.kept ≡ kept_of ending
  pub written : IsReported old new (status_of ending) (text_for output ending) o.status
