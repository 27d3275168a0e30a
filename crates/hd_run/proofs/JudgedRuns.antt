-- What a whole run prints in full lines is the text of a run, and is never judged to be none.
use Rattle.hd_run.proofs.Basics.{Audit, Bool, Cmd, Form, Full, Lines, List, Load, MOST_BYTES, Mode, Ok, Option, Output, Plain, Promise, RanBy, Request, Result, Roots, ScriptBy, SinkView, Solo, Some, SourceView, Summary, TheRun, Took, [], ap, arith, false, inl, inr, length, numbers_by, numbers_for, output_by, output_of, ran_text, refl, subst, sym, traits_of, true, world_that, ℕ, ◌++◌, ◌∙◌, ◌∷◌, ◌≡◌, ◌≤◌, ◌⊎◌}
use Rattle.std.proofs.lemmas.List.{append_cancel_left}
use Rattle.hd_model.proofs.Basics.{cases_eq, ⊎_elim}
use Rattle.hd_model.proofs.StepChains.{run_from_solo}
use Rattle.hd_model.specs.FullText.{full_text_of}
use Rattle.hd_model.specs.Grammar.{IsScript, script_of}
use Rattle.hd_model.specs.RunTexts.{IsNoRun, IsRunText}
use Rattle.hd_model.specs.State.{Numbers}
use Rattle.hd_io.specs.Sink.{Appends}
use Rattle.hd_script.specs.AuditInput.{IsDivided}
use Rattle.hd_audit.proofs.RunTexts.{runs_have_no_wrong_line}
use Rattle.hd_audit.specs.RightVerdicts.{IsRight}
use Rattle.hd_audit.specs.declared.lines.Verdict.{Verdict}
use Rattle.hd_audit.specs.declared.lines.Verdict.TheVariants as verdict
use Rattle.hd_run.specs.Audit.{HasNoRun}
use Rattle.hd_run.specs.AuditClaims.{AuditPromise, ByMode, IsInputRefused, JudgesTo}
use Rattle.hd_run.specs.Bounds.{Bounds}
use Rattle.hd_run.specs.Ending.{roots_by}
use Rattle.hd_run.specs.PrintedRuns.{PrintedRunsAreJudgedRuns, PrintsRun, WholeRunsAreJudgedRuns}
use Rattle.hd_run.specs.declared.ending.Ran.{Ran}
use Rattle.hd_run.specs.declared.ending.Ran.TheVariants as ran
use Rattle.hd_run.proofs.AuditInputs.{accepted, one_script, one_text}
use Rattle.hd_run.proofs.CallClaims.{all_of}
use Rattle.hd_run.proofs.CallerParts.{parts_follow}

-- what ran a whole script printed the text of a run of it
pub whole_run_text : (threads : Bool) (n : Numbers) (lists : List (List Cmd)) (run : Ran)
    → RanBy threads n lists run
    → IsRunText n lists (full_text_of (world_that run).journal (world_that run).state)
whole_run_text false n lists (ran.Alone w) h = record {
  journal = w.journal;
  state = w.state;
  whole = record {
    run = run_from_solo n w.journal w.state h.run;
    parts = parts_follow lists w.journal [] h.turns;
  };
  text = refl;
}
whole_run_text false n lists (ran.Shared w) h = absurd h
whole_run_text true n lists (ran.Alone w) h = absurd h
whole_run_text true n lists (ran.Shared w) h = record {
  journal = w.journal;
  state = w.state;
  whole = record { run = h.run; parts = h.parts };
  text = refl;
}

-- of the text of a run no other verdict is right
run_or_memory : (n : Numbers) (lists : List (List Cmd)) (text : List ℕ) (v : Verdict)
    → IsRunText n lists text → IsRight n lists text v → (v ≡ verdict.Run) ⊎ (v ≡ verdict.Memory)
run_or_memory n lists text verdict.Run run right = inl refl
run_or_memory n lists text (verdict.NotRun line) run right =
    absurd (runs_have_no_wrong_line n lists text line run right)
run_or_memory n lists text verdict.Memory run right = inr refl

pub whole_runs_judged : WholeRunsAreJudgedRuns
whole_runs_judged threads n lists run v h right =
    run_or_memory n lists (full_text_of (world_that run).journal (world_that run).state) v
    (whole_run_text threads n lists run h) right

-- ---- the program

-- a mode that writes full lines runs the script of a source, and neither judges nor lists roots
record RunsInFull (m : Mode) : Type 0 where
  judges : (traits_of m).judges ≡ false
  reads : (traits_of m).reads ≡ true
  lists : (traits_of m).manner.lists_roots ≡ false

runs_in_full : (m : Mode) (form : Form) → output_by form (traits_of m) ≡ Lines Full → RunsInFull m
runs_in_full Solo Full is = record { judges = refl; reads = refl; lists = refl }
runs_in_full TheRun Full is = record { judges = refl; reads = refl; lists = refl }
runs_in_full Load Full is = cc
runs_in_full Roots Full is = cc
runs_in_full Audit Full is = cc
runs_in_full Solo Plain is = cc
runs_in_full TheRun Plain is = cc
runs_in_full Load Plain is = cc
runs_in_full Roots Plain is = cc
runs_in_full Audit Plain is = cc

-- what was added to what a sink states
added : (before after : Option (List ℕ)) (piece first text : List ℕ) → Appends before after piece
    → before ≡ Some first → after ≡ Some (first ++ text) → piece ≡ text
added before after piece first text h was is =
    let here : Appends (Some first) (Some (first ++ text)) piece =
    subst (λ (o : Option (List ℕ)). Appends (Some first) o piece) is
    (subst (λ (o : Option (List ℕ)). Appends o after piece) was h) in
    sym (append_cancel_left first text piece here)

-- a whole run of the script of a source, by what its mode is
module _ (r : Request) (old new : SourceView) (before after : SinkView) (script first text : List ℕ)
    (given : old.left ≡ Some script) (was : before.written ≡ Some first)
    (is : after.written ≡ Some (first ++ text)) where
  run_text : (reads threads listed : Bool) (output : Output) (lists : List (List Cmd)) (run : Ran)
      → reads ≡ true → listed ≡ false → output ≡ Lines Full → ScriptBy reads r old new lists
      → RanBy threads (numbers_by reads r lists) lists run
      → Took before after (ran_text output (world_that run) (roots_by listed (world_that run)))
      → IsScript script lists × IsRunText (numbers_for r.limits lists) lists text
  run_text true threads false (Lines Full) lists run a b c read whole took = (
    subst (λ (bytes : List ℕ). IsScript bytes lists)
        (all_of old.left new.left script read.bytes given read.read.all.gave.consumed read.read.all.end)
        read.program.script,
    subst (λ (t : List ℕ). IsRunText (numbers_for r.limits lists) lists t)
        (added before.written after.written (full_text_of (world_that run).journal (world_that run).state)
        first text took.appended was is)
        (whole_run_text threads (numbers_for r.limits lists) lists run whole),
  )
  run_text true threads false (Lines Plain) lists run a b c read whole took = cc
  run_text true threads false Summary lists run a b c read whole took = cc
  run_text true threads true output lists run a b c read whole took = cc
  run_text false threads listed output lists run a b c read whole took = cc

same_lists : (a b : List (List Cmd)) (read : Result (List (List Cmd)) ℕ) → read ≡ Ok a → read ≡ Ok b → a ≡ b
same_lists a b read one two = cc

-- of the text of a run the status of a judgement is 0 or 6
module _ (b : Bounds) (bytes script text : List ℕ) (lists : List (List Cmd)) (few : length bytes ≤ MOST_BYTES)
    (divided : IsDivided bytes script text) (right : IsScript script lists)
    (run : IsRunText (numbers_for b lists) lists text) where
  not_refused : IsInputRefused bytes → ⊥
  not_refused (inl over) = absurd (omega (arith, over, few))
  not_refused (inr (line, fault)) =
      accepted (record { script = script; divided = divided; right = right }) line fault

  not_no_run : (line : ℕ) → HasNoRun b bytes line → ⊥
  not_no_run line h =
      let same_script : h.input.script ≡ script = one_script h.input.divided divided in
      let same_text : h.text ≡ text = one_text h.input.divided divided in
      let same : h.lists ≡ lists =
      same_lists h.lists lists (script_of h.input.script) h.input.right (ap script_of same_script ∙ right) in
      runs_have_no_wrong_line (numbers_for b lists) lists text line run
      (subst (λ (t : List ℕ). IsNoRun (numbers_for b lists) lists t line) same_text
      (subst (λ (ls : List (List Cmd)). IsNoRun (numbers_for b ls) ls h.text line) same h.says))

  judged_run : (status : ℕ) → JudgesTo b bytes status → (status ≡ 0) ⊎ (status ≡ 6)
  judged_run status judges =
      ⊎_elim (λ six. inr six)
      (λ other. ⊎_elim (λ refused. absurd (not_refused refused.1))
      (λ decided. ⊎_elim (λ is. inl is.0) (λ wrong. absurd (not_no_run wrong.1.0 wrong.1.1)) decided.1)
      (judges other)) (cases_eq status 6)

module _ {S K : Type 0} (seen : S → SourceView) (shown : K → SinkView) where
  -- what a call that does not judge promises, and what one that does
  runs_promise : (judges : Bool) (J P : Type 0) → judges ≡ false → ByMode judges J P → P
  runs_promise true J P is h = cc
  runs_promise false J P is h = h

  judges_promise : (judges : Bool) (J P : Type 0) → judges ≡ true → ByMode judges J P → J
  judges_promise true J P is h = h
  judges_promise false J P is h = cc

  printed_text : (r : Request) (script text : List ℕ) → PrintsRun seen shown r script text
      → (lists : List (List Cmd)) × (IsScript script lists × IsRunText (numbers_for r.limits lists) lists text)
  printed_text r script text p =
      let m = runs_in_full r.mode r.form p.full in
      let promise : Promise seen shown (Some r) p.source p.sink p.outcome =
      runs_promise (traits_of r.mode).judges (AuditPromise seen shown (Some r) p.source p.sink p.outcome)
      (Promise seen shown (Some r) p.source p.sink p.outcome) m.judges p.promise in
      let (lists, read, run, kept, whole, took) = promise.whole p.done in (
        lists,
        run_text r (seen p.source.0) (seen p.source.1) (shown p.sink.0) (shown p.sink.1) script p.before text
            p.given p.begin p.printed (traits_of r.mode).reads (traits_of r.mode).manner.threads
            (traits_of r.mode).manner.lists_roots (output_of r) lists run m.reads m.lists p.full read whole
            took,
      )

  pub printed_runs_judged : PrintedRunsAreJudgedRuns seen shown
  printed_runs_judged r q script text status p j same =
      let (lists, known) = printed_text r script text p in
      let promise : AuditPromise seen shown (Some q) j.source j.sink j.outcome =
      judges_promise (traits_of q.mode).judges (AuditPromise seen shown (Some q) j.source j.sink j.outcome)
      (Promise seen shown (Some q) j.source j.sink j.outcome) j.judges j.promise in
      judged_run q.limits j.bytes script text lists j.few j.divided known.0
      (subst (λ (b : Bounds). IsRunText (numbers_for b lists) lists text) (sym same) known.1) status
      (subst (λ (k : ℕ). JudgesTo q.limits j.bytes k) j.returned
      (promise.decides j.read j.written j.bytes j.given))
