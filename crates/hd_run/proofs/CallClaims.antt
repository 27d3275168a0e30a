-- What a call promises, from the cause of its ending and its report.
use Rattle.hd_run.proofs.Basics.{Alone, AreBytesRefused, AsksForLoad, AsksToRead, BadLine, Bool, Cause, CauseBy, Cmd, DecidesStatus, Done, Ending, Entry, Err, Fault, FaultCause, Form, Full, GaveCount, HasLine, IfSome, IsErr, IsFaultOfWords, IsProgram, IsStatus, KeepsCount, KeepsRun, Kept, Lines, List, Load, MOST_BYTES, Mode, NoMemory, None, Nothing, Ok, Option, Outcome, OverSize, Plain, Promise, ReadProgram, Refused, RefusedBy, RefusesScript, Reports, Request, RootId, Rose, RunsWhole, ScriptBy, Shared, SinkView, Some, SourceView, Stopped, StopsForMemory, Summary, Took, Unread, Usage, Worked, [], ap, append-nil, arith, false, fault_status, in_threads, inl, inr, journal_in, kept_of, length, length-append, lit<, output_by, output_for, output_of, ran_text, refl, run_from_solo, status_of, stopped_text, subst, sym, text_for, traits_of, true, world_of, world_that, ℕ, ◌++◌, ◌∙◌, ◌≡◌, ◌≢◌, ◌≤◌, ◌⊎◌}
use Rattle.std.specs.Io.KnownBytes.{Consumes, IsAtEnd}
use Rattle.hd_model.specs.Grammar.{script_of}
use Rattle.hd_model.proofs.RunCounts.{handles_are_made_less_freed}
use Rattle.hd_run.proofs.ReadFaults.{no_whole, unfailed as no_fault, unread_rose}
use Rattle.hd_run.proofs.ReportedTexts.{reported_as, status_cases, write_rose}
use Rattle.hd_run.proofs.RunEndings.{not_five, ending_status, journal_kept, nothing_reported, run_keeps}
use Rattle.hd_run.proofs.LoadClaims.{line_of, refused_line}

-- the handles of what is kept are those that were made, less those that were freed
pub kept_handles : (kept : Kept) → KeepsRun kept → KeepsCount kept
kept_handles Nothing run = tt
kept_handles (Alone w) run = handles_are_made_less_freed w.numbers w.journal w.state
    (run_from_solo w.numbers w.journal w.state run)
kept_handles (Shared w) run = handles_are_made_less_freed w.numbers w.journal w.state run

-- ---- what was read

-- the bytes that a read took are among those that were left, and all that it read are all of them
pub among : (old new : Option (List ℕ)) (bytes read : List ℕ) → old ≡ Some bytes →
    Consumes old new read → length read ≤ length bytes
among None new bytes read e reported_as = cc
among (Some xs) None bytes read e reported_as = absurd reported_as
among (Some xs) (Some ys) bytes read e reported_as =
    let same : xs ≡ bytes = cc in
    omega (arith, ap length reported_as, ap length same, length-append read ys)

pub all_of : (old new : Option (List ℕ)) (bytes read : List ℕ) → old ≡ Some bytes →
    Consumes old new read → IsAtEnd new → read ≡ bytes
all_of None new bytes read e reported_as end = cc
all_of (Some xs) None bytes read e reported_as end = absurd reported_as
all_of (Some xs) (Some ys) bytes read e reported_as end =
    let same : xs ≡ bytes = cc in
    sym (reported_as ∙ ap (λ v. read ++ v) end ∙ append-nil read) ∙ same

-- a program of few bytes is not refused
not_refused : (lists : List (List Cmd)) (bytes : List ℕ) → length bytes ≤ MOST_BYTES →
    IsProgram bytes lists → ¬ (AreBytesRefused bytes)
not_refused lists bytes few program (inl over) = absurd (omega arith)
not_refused lists bytes few program (inr fault) =
    let fails : IsErr {T = List (List Cmd)} {E = ℕ} (Ok lists) = subst IsErr program.script fault in
    cc

-- nothing was read
pub nothing_read : (v : SourceView) → GaveCount v v (λ n. n ≤ MOST_BYTES)
nothing_read v = record {
  bytes = [];
  gave = record { consumed = none_consumed v.left; counted = inl (omega arith); unfailed = refl };
  count = omega arith;
}
  where
    none_consumed : (o : Option (List ℕ)) → Consumes o o []
    none_consumed None = tt
    none_consumed (Some xs) = refl

-- the line of bytes that is at fault
abbrev IsBad : List ℕ → ℕ → Type 0
IsBad bytes k = script_of bytes ≡ Err k

module _ (old new : SourceView) where
  -- ---- a fault, by whether the mode reads

  usage_by : (reads : Bool) (f : Fault) → fault_status f ≡ 2 → RefusedBy reads old new f → ⊥
  usage_by true Usage is cause = cause
  usage_by true f is cause = cc
  usage_by false f is (memory, unread) = absurd (omega (arith, is, ap fault_status memory))

  script_by : (reads : Bool) (f : Fault) → fault_status f ≡ 3 → RefusedBy reads old new f →
      (reads ≡ true) × RefusesScript old new
  script_by true OverSize is cause = (refl, inl cause)
  script_by true (BadLine k) is (bytes, read, fault) =
      (refl, inr (bytes, read, subst IsErr (sym fault) refl))
  script_by true f is cause = cc
  script_by false f is (memory, unread) = absurd (omega (arith, is, ap fault_status memory))

  read_by : (reads : Bool) (f : Fault) → fault_status f ≡ 4 → RefusedBy reads old new f →
      (reads ≡ true) × Rose old.faults new.faults
  read_by true Unread is cause = (refl, unread_rose IsBad old new cause)
  read_by true f is cause = cc
  read_by false f is (memory, unread) = absurd (omega (arith, is, ap fault_status memory))

  -- but for a failed read, no fault is passed over
  faults_by : (reads : Bool) (f : Fault) → RefusedBy reads old new f → fault_status f ≢ 4 →
      new.faults ≡ old.faults
  faults_by true f cause ne = no_fault IsBad old new f cause ne
  faults_by false f (memory, unread) ne = ap (λ (v : SourceView). v.faults) unread

  script_unfailed : (reads : Bool) (r : Request) (lists : List (List Cmd)) → ScriptBy reads r old new lists →
      new.faults ≡ old.faults
  script_unfailed true r lists script = script.read.all.gave.unfailed
  script_unfailed false r lists script = ap (λ (v : SourceView). v.faults) script.0

  -- ---- by what is asked, a status that is no other than that of a fault

  refused_at : (e : Ending) (k : ℕ) → status_of e ≡ k → k ≢ 0 → k ≢ 6 → (f : Fault) × (e ≡ Refused f)
  refused_at (Refused f) k is some other = (f, refl)
  refused_at (Stopped run) k is some other = absurd (other (sym is))
  refused_at (Done run roots) k is some other = absurd (some (sym is))

  none_status : (asked : Option Request) (e : Ending) → asked ≡ None → Cause asked old new e →
      (status_of e ≡ 2) ⊎ (status_of e ≡ 6)
  none_status None e none (inl usage, unread) = inl (ap status_of usage)
  none_status None e none (inr memory, unread) = inr (ap status_of memory)
  none_status (Some r) e none cause = cc

  none_is : (e : Ending) (k : ℕ) → Cause None old new e → status_of e ≡ k → k ≢ 2 → k ≢ 6 → ⊥
  none_is e k cause is usage memory = elim (none_status None e refl cause) [
    | inl two ↦ usage (sym is ∙ two)
    | inr six ↦ memory (sym is ∙ six)
  ]

  usage_of : (asked : Option Request) (f : Fault) → Cause asked old new (Refused f) → fault_status f ≡ 2 →
      asked ≡ None
  usage_of None f cause is = refl
  usage_of (Some r) f cause is = absurd (usage_by (traits_of r.mode).reads f is cause)

  script_of_fault : (asked : Option Request) (f : Fault) → Cause asked old new (Refused f) →
      fault_status f ≡ 3 → AsksToRead asked × RefusesScript old new
  script_of_fault None f cause is = absurd (none_is (Refused f) 3 cause is (λ e. cc) (λ e. cc))
  script_of_fault (Some r) f cause is = script_by (traits_of r.mode).reads f is cause

  read_of : (asked : Option Request) (f : Fault) → Cause asked old new (Refused f) → fault_status f ≡ 4 →
      AsksToRead asked × Rose old.faults new.faults
  read_of None f cause is = absurd (none_is (Refused f) 4 cause is (λ e. cc) (λ e. cc))
  read_of (Some r) f cause is = read_by (traits_of r.mode).reads f is cause

  source_faults_of : (asked : Option Request) (e : Ending) → Cause asked old new e →
      status_of e ≢ 4 → new.faults ≡ old.faults
  source_faults_of None e cause ne = ap (λ (v : SourceView). v.faults) cause.1
  source_faults_of (Some r) (Refused f) cause ne = faults_by (traits_of r.mode).reads f cause ne
  source_faults_of (Some r) (Stopped run) (lists, script, at) ne =
      script_unfailed (traits_of r.mode).reads r lists script
  source_faults_of (Some r) (Done run roots) (lists, script, all) ne =
      script_unfailed (traits_of r.mode).reads r lists script

  -- ---- what a run of bytes that were left returns

  module _ (status : ℕ) (unfailed : ¬ (Rose old.faults new.faults)) (bytes : List ℕ)
      (left : old.left ≡ Some bytes) where
    refused_decides : (f : Fault) → FaultCause old new f → status ≡ fault_status f
        → DecidesStatus bytes status
    refused_decides Usage cause is ne = absurd cause
    refused_decides Unread cause is ne = absurd (unfailed (unread_rose IsBad old new cause))
    refused_decides OverSize cause is ne =
        let few = among old.left new.left bytes cause.bytes left cause.gave.consumed in
        inl (is, inl (omega (arith, few, cause.count)))
    refused_decides (BadLine k) (read, whole, fault) is ne =
        let same = all_of old.left new.left bytes read left whole.all.gave.consumed whole.all.end in
        inl (is, inr (subst (λ v. IsErr (script_of v)) same (subst IsErr (sym fault) refl)))
    refused_decides NoMemory cause is ne = absurd (ne is)

    whole_decides : (lists : List (List Cmd)) → ReadProgram old new lists → status ≡ 0
        → DecidesStatus bytes status
    whole_decides lists read is ne =
        let whole = read.read in
        let same = all_of old.left new.left bytes read.bytes left whole.all.gave.consumed whole.all.end in
        inr (
          is,
          subst (λ v. ¬ (AreBytesRefused v)) same (not_refused lists read.bytes whole.within read.program),
        )

    decides_of : (asked : Option Request) (e : Ending) → AsksToRead asked → Cause asked old new e →
        status ≡ status_of e → DecidesStatus bytes status
    decides_of None e reads cause is = absurd reads
    decides_of (Some r) (Refused f) reads cause is =
        refused_decides f (subst (λ b. RefusedBy b old new f) reads cause) is
    decides_of (Some r) (Stopped run) reads cause is = λ ne. absurd (ne is)
    decides_of (Some r) (Done run roots) reads (lists, script, all) is =
        whole_decides lists (subst (λ b. ScriptBy b r old new lists) reads script) is

  -- a load is done, or memory ran out
  load_status : (asked : Option Request) (e : Ending) → AsksForLoad asked → Cause asked old new e →
      (status_of e ≡ 0) ⊎ (status_of e ≡ 6)
  load_status None e load cause = absurd load
  load_status (Some r) (Refused f) load cause =
      inr (ap fault_status (subst (λ b. RefusedBy b old new f) load cause).0)
  load_status (Some r) (Stopped run) load cause = inr refl
  load_status (Some r) (Done run roots) load cause = inl refl

  -- what is kept has a run, whatever the ending
  kept_run : (asked : Option Request) (e : Ending) → Cause asked old new e → KeepsRun (kept_of e)
  kept_run None e (inl usage, unread) = subst (λ (f : Ending). KeepsRun (kept_of f)) (sym usage) tt
  kept_run None e (inr memory, unread) = subst (λ (f : Ending). KeepsRun (kept_of f)) (sym memory) tt
  kept_run (Some r) (Refused f) cause = tt
  kept_run (Some r) (Stopped run) (lists, script, at) =
      run_keeps (traits_of r.mode).manner _ lists (Stopped run) at
  kept_run (Some r) (Done run roots) (lists, script, all) =
      run_keeps (traits_of r.mode).manner _ lists (Done run roots) all

  module _ (before after : SinkView) where
    whole_of : (asked : Option Request) (e : Ending) → Cause asked old new e → status_of e ≡ 0 →
        Took before after (text_for (output_for asked) e) → RunsWhole asked old new before after (kept_of e)
    whole_of None e cause is took = absurd (none_is e 0 cause is (λ e. cc) (λ e. cc))
    whole_of (Some r) (Refused f) cause is took = absurd (no_whole f is)
    whole_of (Some r) (Stopped run) cause is took = cc
    whole_of (Some r) (Done run roots) (lists, script, all) is took = (
      lists,
      script,
      run,
      refl,
      all.0,
      subst (λ (rs : Option (List RootId)). Took before after
          (ran_text (output_of r) (world_that run) rs)) all.1 took,
    )

    -- what is said where memory ran out
    abbrev WantsMemory : Option Request → Kept → Type 0
    WantsMemory asked kept = StopsForMemory asked old new kept
        × Took before after (stopped_text (output_for asked) (journal_in (world_of kept)))

    memory_of : (asked : Option Request) (e : Ending) → Cause asked old new e → status_of e ≡ 6 →
        Took before after (text_for (output_for asked) e) → WantsMemory asked (kept_of e)
    memory_of None e (inl usage, unread) is took = absurd (omega (arith, is, ap status_of usage))
    memory_of None e (inr memory, unread) is took = subst (λ (f : Ending). WantsMemory None (kept_of f))
        (sym memory)
        (inl (unread, refl), subst (λ (f : Ending). Took before after (text_for (Lines Plain) f)) memory took)
    memory_of (Some r) (Refused NoMemory) cause is took =
        (inl (cause, refl), subst (Took before after) (nothing_reported (output_of r)) took)
    memory_of (Some r) (Refused f) cause is took = cc
    memory_of (Some r) (Stopped run) (lists, script, at) is took = (
      inr (lists, script, run, refl, at),
      subst (λ (es : List Entry). Took before after (stopped_text (output_of r) es))
          (journal_kept run) took,
    )
    memory_of (Some r) (Done run roots) cause is took = cc

    -- the line of a load, which alone reads nothing
    line_by : (m : Mode) (form : Form) (r : Request) (e : Ending) (o : Outcome) →
        (traits_of m).reads ≡ false →
        CauseBy (traits_of m).reads (traits_of m).manner r old new e →
        Reports before after (output_by form (traits_of m)) e o → HasLine r.rounds before after o.status
    line_by Load form r e o load cause reports = by e cause (in_summary form reports)
      where
        in_summary : (t : Form) → Reports before after (output_by t (traits_of Load)) e o
            → Reports before after Summary e o
        in_summary Plain is = is
        in_summary Full is = is

        by : (f : Ending) → CauseBy false in_threads r old new f → Reports before after Summary f o
            → HasLine r.rounds before after o.status
        by (Refused f) cause is = refused_line r.rounds before after Summary f o is
        by (Stopped run) (lists, script, at) is =
            line_of r.rounds lists script.1 before after (Stopped run) o at is
        by (Done run roots) (lists, script, all) is =
            line_of r.rounds lists script.1 before after (Done run roots) o all is
    line_by m form r e o load cause reports = cc

module _ {S K : Type 0} (seen : S → SourceView) (shown : K → SinkView) (source : S × S) (sink : K × K)
    (o : Outcome) where
  module _ (asked : Option Request) (e : Ending) (cause : Cause asked (seen source.0) (seen source.1) e)
      (reports : Reports (shown sink.0) (shown sink.1) (output_for asked) e o)
      (unread : ¬ (AsksToRead asked) → source.1 ≡ source.0)
      (line : IfSome asked (λ r. (traits_of r.mode).reads ≡ false →
      HasLine r.rounds (shown sink.0) (shown sink.1) o.status)) where
    abbrev old : SourceView
    old = seen source.0

    abbrev new : SourceView
    new = seen source.1

    abbrev before : SinkView
    before = shown sink.0

    abbrev after : SinkView
    after = shown sink.1

    run_kept : KeepsRun o.kept
    run_kept = subst KeepsRun (sym reports.kept) (kept_run old new asked e cause)

    -- words that are not valid, and a load, read nothing
    none_unread : (a : Option Request) → a ≡ None → AsksToRead a → ⊥
    none_unread None none reads = reads
    none_unread (Some r) none reads = cc

    load_unread : (a : Option Request) → AsksForLoad a → AsksToRead a → ⊥
    load_unread None load reads = reads
    load_unread (Some r) load reads = let both : true ≡ false = sym reads ∙ load in cc

    all : (k : ℕ) → o.status ≡ k → k ≢ 5
        → (status_of e ≡ k) × Took before after (text_for (output_for asked) e)
    all = reported_as before after (status_of e) (text_for (output_for asked) e) o.status reports.written

    rose : o.status ≡ 5 → Rose before.faults after.faults
    rose = write_rose before after (status_of e) (text_for (output_for asked) e) o.status reports.written
        (not_five e)

    cases : (o.status ≡ status_of e) ⊎ (o.status ≡ 5)
    cases = status_cases before after (status_of e) (text_for (output_for asked) e) o.status reports.written

    -- a fault, where the status is one of a fault alone
    fault_at : (k : ℕ) → o.status ≡ k → k ≢ 5 → k ≢ 0 → k ≢ 6 → (f : Fault) × Cause asked old new (Refused f)
        × (fault_status f ≡ k) × (o.kept ≡ Nothing)
    fault_at k s written some other =
        let is = (all k s written).0 in
        let at = refused_at old new e k is some other in (
          at.0,
          subst (Cause asked old new) at.1 cause,
          sym (ap status_of at.1) ∙ is,
          reports.kept ∙ ap kept_of at.1,
        )

    promise : Promise seen shown asked source sink o
    promise = record {
      work = (e, cause, reports);
      whole = λ s.
          let at = all 0 s (λ f. cc) in subst (RunsWhole asked old new before after) (sym reports.kept)
          (whole_of old new before after asked e cause at.0 at.1);
      usage = λ s. let at = fault_at 2 s (λ f. cc) (λ f. cc) (λ f. cc) in
          (usage_of old new asked at.0 at.1 at.2, at.3);
      script = λ s. let at = fault_at 3 s (λ f. cc) (λ f. cc) (λ f. cc) in
          let says = script_of_fault old new asked at.0 at.1 at.2 in (says.0, says.1, at.3);
      read = λ s. let at = fault_at 4 s (λ f. cc) (λ f. cc) (λ f. cc) in
          let says = read_of old new asked at.0 at.1 at.2 in (says.0, says.1, at.3);
      write = rose;
      memory = λ s. let at = all 6 s (λ f. cc) in
          subst (WantsMemory old new before after asked) (sym reports.kept)
          (memory_of old new before after asked e cause at.0 at.1);
      statuses = elim cases [
        | inl is ↦ subst IsStatus (sym is) (ending_status e)
        | inr is ↦ subst IsStatus (sym is) (4, lit< tt, refl)
      ];
      source_faults = λ four five. source_faults_of old new asked e cause
          (λ f. four (sym (all o.status refl five).0 ∙ f));
      sink_faults = λ five. (all o.status refl five).1.unfailed;
      words = λ none. (
        unread (none_unread asked none),
        elim cases [
          | inl is ↦ elim (none_status old new asked e none cause) [
            | inl two ↦ inl (is ∙ two)
            | inr six ↦ inr (inr (is ∙ six))
          ]
          | inr is ↦ inr (inl is)
        ],
      );
      load = λ load. unread (load_unread asked load);
      line = line;
      goes_on = λ load. λ heard.
          let is = (all o.status refl (λ five. heard (rose five))).0 in
          elim (load_status old new asked e load cause) [
            | inl done ↦ inl (sym is ∙ done)
            | inr memory ↦ inr (sym is ∙ memory)
          ];
      decides = λ reads. λ well. λ heard. λ bytes. λ left.
          decides_of old new o.status well bytes left asked e reads cause
          (sym (all o.status refl (λ five. heard (rose five))).0);
      journal = run_kept;
      handles = kept_handles o.kept run_kept;
    }

  -- what was asked was done
  pub asked_promise : (r : Request) (e : Ending) →
      Worked seen (traits_of r.mode).manner r source e →
      Reports (shown sink.0) (shown sink.1) (output_of r) e o
      → Promise seen shown (Some r) source sink o
  asked_promise r e worked reports = promise (Some r) e worked.cause reports
      (λ unread. worked.unread (is_false (traits_of r.mode).reads unread))
      (λ load. line_by (seen source.0) (seen source.1) (shown sink.0) (shown sink.1) r.mode r.form r e o load
      worked.cause reports)
    where
      is_false : (b : Bool) → ¬ (b ≡ true) → b ≡ false
      is_false true ne = absurd (ne refl)
      is_false false ne = refl

-- the words were refused
words_cause : (asked : Option Request) (v : SourceView) (f : Fault) → IsFaultOfWords asked f →
    Cause asked v v (Refused f)
words_cause None v f (inl memory) = (inr (ap Refused memory), refl)
words_cause None v f (inr (usage, none)) = (inl (ap Refused usage), refl)
words_cause (Some r) v f (inl memory) = subst (RefusedBy (traits_of r.mode).reads v v) (sym memory)
    (by (traits_of r.mode).reads)
  where
    by : (reads : Bool) → RefusedBy reads v v NoMemory
    by true = nothing_read v
    by false = (refl, refl)
words_cause (Some r) v f (inr (usage, none)) = cc

pub refused_promise : {S K : Type 0} (seen : S → SourceView) (shown : K → SinkView) (asked : Option Request)
    (source : S) (sink : K × K) (f : Fault) (o : Outcome) → IsFaultOfWords asked f →
    Reports (shown sink.0) (shown sink.1) (Lines Plain) (Refused f) o
    → Promise seen shown asked (source, source) sink o
refused_promise seen shown asked source sink f o fault reports =
    promise seen shown (source, source) sink o asked (Refused f) (words_cause asked (seen source) f fault)
    (record { kept = reports.kept; written = reports.written }) (λ unread. refl) (no_line asked)
  where
    no_line : (a : Option Request) → IfSome a (λ r. (traits_of r.mode).reads ≡ false →
        HasLine r.rounds (shown sink.0) (shown sink.1) o.status)
    no_line None = tt
    no_line (Some r) = λ load. refused_line r.rounds (shown sink.0) (shown sink.1) (Lines Plain) f o reports
