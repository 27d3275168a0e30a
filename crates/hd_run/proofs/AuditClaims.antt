-- What a call that judges promises, from the cause of what it found and its report.
use Rattle.hd_run.proofs.Basics.{BadLine, Bool, Contains, Fault, IfSome, IsFaultOfWords, Lines, List, MOST_BYTES, NoMemory, None, Option, Outcome, OverSize, Plain, Promise, ReadBytes, ReadWhole, Refused as ended, Reports, Request, Rose, SinkView, Some, SourceView, Took, Unread, Usage, [], ap, arith, false, fault_status, inl, inr, length, lit<, memory_text, refl, subst, sym, traits_of, true, ℕ, ◌∙◌, ◌∷◌, ◌≡◌, ◌≢◌, ◌≤◌, ◌⊎◌}
use Rattle.std.specs.Prelude.{IsSomeAnd}
use Rattle.hd_run.specs.Bounds.{Bounds}
use Rattle.hd_run.specs.Audit.{AuditCause, FindingCause, HasNoRun, HasRun, IsJudged, ReportsFinding, finding_status, finding_text, right_text, wrong_text}
use Rattle.hd_run.specs.AuditClaims.{AsksToJudge, AuditPromise, ByMode, IsInputRefused, JudgesTo, ProgramPromise, ReadFew, RefusesInput, judges}
use Rattle.hd_run.specs.declared.audit.Finding.{Finding}
use Rattle.hd_run.specs.declared.audit.Finding.TheVariants.{Refused, Right, WrongAt}
use Rattle.hd_script.specs.AuditInput.{IsNoAuditInput}
use Rattle.hd_run.proofs.ReadFaults.{no_whole, unfailed as no_fault, unread_rose}
use Rattle.hd_run.proofs.ReportedTexts.{reported_as, status_cases, write_rose}
use Rattle.hd_run.proofs.CallClaims.{all_of, among, nothing_read, refused_promise}
use Rattle.hd_run.proofs.AuditInputs.{accepted}

-- ---- statuses

found_status : (f : Finding) → Contains (0 ∷ 2 ∷ 3 ∷ 4 ∷ 5 ∷ 6 ∷ 7 ∷ []) (finding_status f)
found_status (Refused Usage) = (1, lit< tt, refl)
found_status (Refused Unread) = (3, lit< tt, refl)
found_status (Refused OverSize) = (2, lit< tt, refl)
found_status (Refused (BadLine k)) = (2, lit< tt, refl)
found_status (Refused NoMemory) = (5, lit< tt, refl)
found_status Right = (0, lit< tt, refl)
found_status (WrongAt line) = (6, lit< tt, refl)

not_five : (f : Finding) → finding_status f ≢ 5
not_five (Refused NoMemory) is = cc
not_five (Refused f) is = cc
not_five Right is = cc
not_five (WrongAt line) is = cc

no_line : (f : Fault) → fault_status f ≢ 7
no_line NoMemory is = cc
no_line f is = cc

module _ (old new : SourceView) where
  -- ---- words that ask for no audit

  none_status : (f : Finding) → AuditCause None old new f
      → (finding_status f ≡ 2) ⊎ (finding_status f ≡ 6)
  none_status f (inl usage, unread) = inl (ap finding_status usage)
  none_status f (inr memory, unread) = inr (ap finding_status memory)

  none_is : (f : Finding) (k : ℕ) → AuditCause None old new f → finding_status f ≡ k → k ≢ 2 → k ≢ 6 → ⊥
  none_is f k cause is usage memory = elim (none_status f cause) [
    | inl two ↦ usage (sym is ∙ two)
    | inr six ↦ memory (sym is ∙ six)
  ]

  -- ---- by what is asked for

  usage_of : (asked : Option Request) (f : Finding) → AuditCause asked old new f → finding_status f ≡ 2
      → asked ≡ None
  usage_of None f cause is = refl
  usage_of (Some r) (Refused Usage) cause is = absurd cause
  usage_of (Some r) f cause is = cc

  read_of : (asked : Option Request) (f : Finding) → AuditCause asked old new f → finding_status f ≡ 4
      → AsksToJudge asked × Rose old.faults new.faults
  read_of None f cause is = absurd (none_is f 4 cause is (λ e. cc) (λ e. cc))
  read_of (Some r) (Refused Unread) cause is = (tt, unread_rose IsNoAuditInput old new cause)
  read_of (Some r) f cause is = cc

  -- but for a failed read, no fault is passed over
  faults_by : (b : Bounds) (f : Finding) → FindingCause b old new f → finding_status f ≢ 4
      → new.faults ≡ old.faults
  faults_by b (Refused f) cause ne = no_fault IsNoAuditInput old new f cause ne
  faults_by b Right (bytes, read, is) ne = read.all.gave.unfailed
  faults_by b (WrongAt line) (bytes, read, is) ne = read.all.gave.unfailed

  faults_of : (asked : Option Request) (f : Finding) → AuditCause asked old new f → finding_status f ≢ 4
      → new.faults ≡ old.faults
  faults_of None f cause ne = ap (λ (v : SourceView). v.faults) cause.1
  faults_of (Some r) f cause ne = faults_by r.limits f cause ne

  -- ---- what is found in bytes that were left

  module _ (b : Bounds) (status : ℕ) (unfailed : ¬ (Rose old.faults new.faults)) (bytes : List ℕ)
      (left : old.left ≡ Some bytes) where
    same_bytes : (read : List ℕ) → ReadWhole old new read → read ≡ bytes
    same_bytes read whole = all_of old.left new.left bytes read left whole.all.gave.consumed whole.all.end

    whole_input : {Says : _} (read : List ℕ) → length read ≤ MOST_BYTES → IsJudged b read Says
        → IsInputRefused read → ⊥
    whole_input read few has (inl over) = absurd (omega arith)
    whole_input read few has (inr (line, fault)) = accepted has.input line fault

    judges_to : (f : Finding) → FindingCause b old new f → status ≡ finding_status f → JudgesTo b bytes status
    judges_to (Refused Usage) cause is ne = absurd cause
    judges_to (Refused Unread) cause is ne = absurd (unfailed (unread_rose IsNoAuditInput old new cause))
    judges_to (Refused OverSize) cause is ne =
        let few = among old.left new.left bytes cause.bytes left cause.gave.consumed in
        inl (is, inl (omega (arith, few, cause.count)))
    judges_to (Refused (BadLine k)) (read, whole, fault) is ne =
        inl (is, subst IsInputRefused (same_bytes read whole) (inr (k, fault)))
    judges_to (Refused NoMemory) cause is ne = absurd (ne is)
    judges_to Right (read, whole, has) is ne = inr (
      subst (λ v. ¬ (IsInputRefused v)) (same_bytes read whole) (whole_input read whole.within has),
      inl (is, subst (HasRun b) (same_bytes read whole) has),
    )
    judges_to (WrongAt line) (read, whole, has) is ne = inr (
      subst (λ v. ¬ (IsInputRefused v)) (same_bytes read whole) (whole_input read whole.within has),
      inr (is, (line, subst (λ v. HasNoRun b v line) (same_bytes read whole) has)),
    )

  -- ---- what is said

  module _ (before after : SinkView) where
    right_of : (asked : Option Request) (f : Finding) → AuditCause asked old new f → finding_status f ≡ 0
        → Took before after (finding_text f)
        → IsSomeAnd asked (λ r. ReadBytes old new (HasRun r.limits)) × Took before after right_text
    right_of None f cause is took = absurd (none_is f 0 cause is (λ e. cc) (λ e. cc))
    right_of (Some r) (Refused f) cause is took = absurd (no_whole f is)
    right_of (Some r) Right cause is took = (cause, took)
    right_of (Some r) (WrongAt line) cause is took = cc

    wrong_of : (asked : Option Request) (f : Finding) → AuditCause asked old new f → finding_status f ≡ 7
        → Took before after (finding_text f)
        → (line : ℕ) × IsSomeAnd asked (λ r. ReadBytes old new (λ bytes. HasNoRun r.limits bytes line))
        × Took before after (wrong_text line)
    wrong_of None f cause is took = absurd (none_is f 7 cause is (λ e. cc) (λ e. cc))
    wrong_of (Some r) (Refused f) cause is took = absurd (no_line f is)
    wrong_of (Some r) Right cause is took = cc
    wrong_of (Some r) (WrongAt line) cause is took = (line, cause, took)

    script_of : (asked : Option Request) (f : Finding) → AuditCause asked old new f → finding_status f ≡ 3
        → Took before after (finding_text f) → AsksToJudge asked × RefusesInput old new before after
    script_of None f cause is took = absurd (none_is f 3 cause is (λ e. cc) (λ e. cc))
    script_of (Some r) (Refused OverSize) cause is took = (tt, inl (cause, took))
    script_of (Some r) (Refused (BadLine k)) cause is took = (tt, inr (k, cause, took))
    script_of (Some r) f cause is took = cc

    memory_of : (asked : Option Request) (f : Finding) → AuditCause asked old new f → finding_status f ≡ 6
        → Took before after (finding_text f) → ReadFew asked old new × Took before after memory_text
    memory_of None f (inl usage, unread) is took = absurd (omega (arith, is, ap finding_status usage))
    memory_of None f (inr memory, unread) is took =
        (unread, subst (λ (g : Finding). Took before after (finding_text g)) memory took)
    memory_of (Some r) (Refused NoMemory) cause is took = (cause, took)
    memory_of (Some r) f cause is took = cc

-- ---- the promise

module _ {S K : Type 0} (seen : S → SourceView) (shown : K → SinkView) (asked : Option Request)
    (source : S × S) (sink : K × K) (o : Outcome) (f : Finding)
    (cause : AuditCause asked (seen source.0) (seen source.1) f)
    (reports : ReportsFinding (shown sink.0) (shown sink.1) f o) (unread : asked ≡ None → source.1 ≡ source.0)
  where
    abbrev old : SourceView
    old = seen source.0

    abbrev new : SourceView
    new = seen source.1

    abbrev before : SinkView
    before = shown sink.0

    abbrev after : SinkView
    after = shown sink.1

    all : (k : ℕ) → o.status ≡ k → k ≢ 5 → (finding_status f ≡ k) × Took before after (finding_text f)
    all = reported_as before after (finding_status f) (finding_text f) o.status reports.written

    rose : o.status ≡ 5 → Rose before.faults after.faults
    rose = write_rose before after (finding_status f) (finding_text f) o.status reports.written (not_five f)

    cases : (o.status ≡ finding_status f) ⊎ (o.status ≡ 5)
    cases = status_cases before after (finding_status f) (finding_text f) o.status reports.written

    no_audit : (a : Option Request) → a ≡ None → AuditCause a old new f
        → (finding_status f ≡ 2) ⊎ (finding_status f ≡ 6)
    no_audit None none is = none_status old new f is
    no_audit (Some r) none is = cc

    decides : (a : Option Request) → AuditCause a old new f → IfSome a (λ r. ¬ (Rose old.faults new.faults) →
        ¬ (Rose before.faults after.faults) → (bytes : List ℕ) → old.left ≡ Some bytes
        → JudgesTo r.limits bytes o.status)
    decides None is = tt
    decides (Some r) is = λ well. λ heard. λ bytes. λ left.
        judges_to old new r.limits o.status well bytes left f is
        (sym (all o.status refl (λ five. heard (rose five))).0)

    pub audit_promise : AuditPromise seen shown asked source sink o
    audit_promise = record {
      work = (f, cause, reports);
      right = λ s. let at = all 0 s (λ e. cc) in right_of old new before after asked f cause at.0 at.1;
      wrong = λ s. let at = all 7 s (λ e. cc) in wrong_of old new before after asked f cause at.0 at.1;
      usage = λ s. usage_of old new asked f cause (all 2 s (λ e. cc)).0;
      script = λ s. let at = all 3 s (λ e. cc) in script_of old new before after asked f cause at.0 at.1;
      read = λ s. read_of old new asked f cause (all 4 s (λ e. cc)).0;
      write = rose;
      memory = λ s. let at = all 6 s (λ e. cc) in memory_of old new before after asked f cause at.0 at.1;
      statuses = elim cases [
        | inl is ↦ subst (Contains (0 ∷ 2 ∷ 3 ∷ 4 ∷ 5 ∷ 6 ∷ 7 ∷ [])) (sym is) (found_status f)
        | inr is ↦ subst (Contains (0 ∷ 2 ∷ 3 ∷ 4 ∷ 5 ∷ 6 ∷ 7 ∷ [])) (sym is) (4, lit< tt, refl)
      ];
      source_faults = λ four five. faults_of old new asked f cause
          (λ e. four (sym (all o.status refl five).0 ∙ e));
      sink_faults = λ five. (all o.status refl five).1.unfailed;
      words = λ none. (
        unread none,
        elim cases [
          | inl is ↦ elim (no_audit asked none cause) [
            | inl two ↦ inl (is ∙ two)
            | inr six ↦ inr (inr (is ∙ six))
          ]
          | inr is ↦ inr (inl is)
        ],
      );
      decides = decides asked cause;
      nothing = reports.kept;
    }

-- the words were refused
words_cause : (asked : Option Request) (v : SourceView) (f : Fault) → IsFaultOfWords asked f
    → AuditCause asked v v (Refused f)
words_cause None v f (inl memory) = (inr (ap Refused memory), refl)
words_cause None v f (inr (usage, none)) = (inl (ap Refused usage), refl)
words_cause (Some r) v f (inl memory) =
    subst (λ (g : Fault). FindingCause r.limits v v (Refused g)) (sym memory) (nothing_read v)
words_cause (Some r) v f (inr (usage, none)) = cc

pub refused_audit : {S K : Type 0} (seen : S → SourceView) (shown : K → SinkView) (asked : Option Request)
    (source : S) (sink : K × K) (f : Fault) (o : Outcome) → IsFaultOfWords asked f
    → ReportsFinding (shown sink.0) (shown sink.1) (Refused f) o
    → AuditPromise seen shown asked (source, source) sink o
refused_audit seen shown asked source sink f o fault reports =
    audit_promise seen shown asked (source, source) sink o (Refused f)
    (words_cause asked (seen source) f fault) reports (λ none. refl)

-- ---- the program

-- a report of words that are refused is one of each mode
pub refused_program : {S K : Type 0} (seen : S → SourceView) (shown : K → SinkView) (asked : Option Request)
    (source : S) (sink : K × K) (f : Fault) (o : Outcome) → IsFaultOfWords asked f
    → Reports (shown sink.0) (shown sink.1) (Lines Plain) (ended f) o
    → ProgramPromise seen shown asked (source, source) sink o
refused_program seen shown asked source sink f o fault reports = by (judges asked)
  where
    by : (t : Bool) → ByMode t (AuditPromise seen shown asked (source, source) sink o)
        (Promise seen shown asked (source, source) sink o)
    by true = refused_audit seen shown asked source sink f o fault
        (record { kept = reports.kept; written = reports.written })
    by false = refused_promise seen shown asked source sink f o fault reports

module _ {S K : Type 0} (seen : S → SourceView) (shown : K → SinkView) (r : Request) (source : S × S)
    (sink : K × K) (o : Outcome) where
  -- a mode that judges
  pub judged_program : (traits_of r.mode).judges ≡ true
      → AuditPromise seen shown (Some r) source sink o → ProgramPromise seen shown (Some r) source sink o
  judged_program is promise = by (traits_of r.mode).judges is
    where
      by : (t : Bool) → t ≡ true
          → ByMode t (AuditPromise seen shown (Some r) source sink o)
          (Promise seen shown (Some r) source sink o)
      by true is = promise
      by false is = cc

  -- and one that runs a script
  pub run_program : (traits_of r.mode).judges ≡ false → Promise seen shown (Some r) source sink o
      → ProgramPromise seen shown (Some r) source sink o
  run_program is promise = by (traits_of r.mode).judges is
    where
      by : (t : Bool) → t ≡ false
          → ByMode t (AuditPromise seen shown (Some r) source sink o)
          (Promise seen shown (Some r) source sink o)
      by true is = cc
      by false is = promise
