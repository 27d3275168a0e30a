-- The endings of a run: their statuses, what is kept, and that their text can be written.
use Rattle.hd_run.proofs.Basics.{Alone, BadLine, Bool, CALLERS, Cmd, Done, Ending, Err, Fault, Form, HasFewCallers, HasSumOf, IsReadyFor, IsStatus, IsWritable, Keeps, KeepsRun, Kept, Lines, List, Manner, NoMemory, Nothing, Numbers, Ok, OnErr, OnOk, Output, OverSize, Ran, RanAllTogether, RanBy, RanWhole, Refused, Result, Run, RunBy, RunCause, Shared, SoloRun, Stopped, StoppedAt, StoppedAtBy, StoppedTogether, Summary, Unread, Usage, WorldView, [], arith, false, fault_status, inl, inr, is_ok, journal_in, kept_of, kept_that, lit<, memory_text, refl, run_ending, run_from_solo, status_of, stopped_text, subst, sym, true, world_of, world_that, ℕ, ◌≡◌, ◌≢◌, ◌≤◌}
use Rattle.hd_model.specs.declared.data.Memory.{Memory}
use Rattle.hd_run.specs.Ending.{StoppedBy}
use Rattle.hd_run.specs.Modes as modes
use Rattle.hd_run.proofs.SharedRun.{few_callers}
use Rattle.hd_run.specs.declared.ending.Ran.TheVariants as ran

pub ending_status : (e : Ending) → IsStatus (status_of e)
ending_status (Refused Usage) = (1, lit< tt, refl)
ending_status (Refused Unread) = (3, lit< tt, refl)
ending_status (Refused OverSize) = (2, lit< tt, refl)
ending_status (Refused (BadLine k)) = (2, lit< tt, refl)
ending_status (Refused NoMemory) = (5, lit< tt, refl)
ending_status (Stopped run) = (5, lit< tt, refl)
ending_status (Done run roots) = (0, lit< tt, refl)

-- the status of an ending is not that of a fault of the sink
pub not_five : (e : Ending) → status_of e ≢ 5
not_five (Refused NoMemory) is = cc
not_five (Refused f) is = cc
not_five (Stopped run) is = cc
not_five (Done run roots) is = cc

-- the journal that ran, and that of what is kept of it, is the same
pub journal_kept : (run : Ran) → (world_that run).journal ≡ journal_in (world_of (kept_that run))
journal_kept (ran.Alone w) = refl
journal_kept (ran.Shared w) = refl

pub nothing_reported : (output : Output) → memory_text ≡ stopped_text output []
nothing_reported (Lines form) = refl
nothing_reported Summary = refl

-- the ending of a run keeps its world
pub ending_keeps : (done : Bool) (run : Ran) → Keeps (run_ending done run)
ending_keeps true run = tt
ending_keeps false run = tt

-- ---- what is kept of a run

run_by : {P Q : WorldView → Type 0} (threads : Bool) (X : Ran → Type 0)
    → ((w : WorldView) → P w → X (ran.Alone w)) →
    ((w : WorldView) → Q w → X (ran.Shared w)) → (run : Ran) → RunBy threads P Q run → X run
run_by false X alone shared (ran.Alone w) at = alone w at
run_by false X alone shared (ran.Shared w) at = absurd at
run_by true X alone shared (ran.Alone w) at = absurd at
run_by true X alone shared (ran.Shared w) at = shared w at

-- what is true of nothing, and of each world that a run leaves, is true of what an ending keeps
module _ (n : Numbers) (lists : List (List Cmd)) (X : Kept → Type 0) (nothing : X Nothing)
    (alone : (w : WorldView) → w.numbers ≡ n → SoloRun n w.journal w.state → X (Alone w))
    (shared : (w : WorldView) → w.numbers ≡ n → Run n w.journal w.state → X (Shared w)) where
  ran_has : (threads : Bool) (run : Ran) → RanBy threads n lists run → X (kept_that run)
  ran_has threads = run_by threads (λ run. X (kept_that run))
      (λ w (all : RanWhole n lists w). alone w all.numbers all.run)
      (λ w (all : RanAllTogether n lists w). shared w all.numbers all.run)

  stopped_has : (threads : Bool) (run : Ran) → StoppedAtBy threads n lists run → X (kept_that run)
  stopped_has threads = run_by threads (λ run. X (kept_that run))
      (λ w (at : StoppedAt n lists w). alone w at.ran.numbers at.ran.run)
      (λ w (at : StoppedTogether n lists w). shared w at.ran.numbers at.ran.run)

  stopped_by : (threads listed : Bool) (run : Ran) → StoppedBy threads listed n lists run → X (kept_that run)
  stopped_by threads false run at = stopped_has threads run at
  stopped_by threads true run (inl at) = stopped_has threads run at
  stopped_by threads true run (inr all) = ran_has threads run all

  ending_has : (m : Manner) (e : Ending) → RunCause m n lists e → X (kept_of e)
  ending_has m (Refused f) is = nothing
  ending_has m (Stopped run) at = stopped_by m.threads m.lists_roots run at
  ending_has m (Done run roots) all = ran_has m.threads run all.0

module _ (m : Manner) (n : Numbers) (lists : List (List Cmd)) (e : Ending)
    (cause : RunCause m n lists e) where
  -- its journal is a run
  pub run_keeps : KeepsRun (kept_of e)
  run_keeps = ending_has n lists KeepsRun tt
      (λ w numbers run. subst (λ (m : Numbers). SoloRun m w.journal w.state) (sym numbers) run)
      (λ w numbers run. subst (λ (m : Numbers). Run m w.journal w.state) (sym numbers) run) m e cause

  -- of few callers
  pub run_callers : n.callers ≤ CALLERS → HasFewCallers (journal_in (world_of (kept_of e)))
  run_callers few =
      ending_has n lists (λ kept. HasFewCallers (journal_in (world_of kept))) (λ k d lt. absurd (omega arith))
      (λ w numbers run. few_callers n w.journal w.state few (run_from_solo n w.journal w.state run))
      (λ w numbers run. few_callers n w.journal w.state few run) m e cause

pub lines_sum : (form : Form) (e : Ending) → HasSumOf (Lines form) e
lines_sum form (Refused f) = tt
lines_sum form (Stopped run) = tt
lines_sum form (Done run roots) = tt

-- the run of few callers can be written by lines
pub lines_writable : (m : Manner) (form : Form) (n : Numbers) (lists : List (List Cmd)) (e : Ending) →
    RunCause m n lists e → n.callers ≤ CALLERS → IsWritable (Lines form) e
lines_writable m form n lists e cause few =
    record { callers = run_callers m n lists e cause few; sum = lines_sum form e }

-- a fault can be written in any way
pub fault_writable : (output : Output) (f : Fault) → IsWritable output (Refused f)
fault_writable output f = record { callers = λ k d lt. absurd (omega arith); sum = tt }

-- the run of one thread took all turns, or stopped
pub turns_cause : (lists : List (List Cmd)) (n : Numbers) (w : WorldView) (taken : Result (Unit {0}) Memory) →
    OnOk taken (IsReadyFor n lists [] w) → OnErr taken (StoppedAt n lists w) →
    RunCause modes.alone n lists (run_ending (is_ok taken) (ran.Alone w))
turns_cause lists n w (Ok all) done stopped = (done.ran, refl)
turns_cause lists n w (Err memory) done stopped = stopped
