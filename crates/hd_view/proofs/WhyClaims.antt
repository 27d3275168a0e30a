-- What `why` promises, from the cause of what it found and its report.
use Rattle.std.proofs.Common.{List, [], arith, lit<, refl, subst, sym, ℕ, ◌∷◌, ◌≡◌}
use Rattle.std.specs.Prelude.{Contains, ◌≢◌}
use mathlib.Core.Logic.{inl, inr}
use Rattle.hd_io.specs.Counts.{Rose}
use Rattle.hd_io.specs.Sink.{SinkView, Took}
use Rattle.hd_io.specs.Source.{SourceView}
use Rattle.hd_model.specs.declared.command.Cmd.{Cmd}
use Rattle.hd_script.specs.AuditInput.{IsAuditInput, IsNoAuditInput}
use Rattle.hd_run.proofs.ReadFaults.{no_whole, unread_rose}
use Rattle.hd_run.proofs.ReportedTexts.{reported_as, status_cases, write_rose}
use Rattle.hd_run.specs.Audit.{HasRun, IsJudged, right_text}
use Rattle.hd_run.specs.AuditClaims.{RefusesInput}
use Rattle.hd_run.specs.Bounds.{Bounds, numbers_for}
use Rattle.hd_run.specs.Ending.{ReadBytes, ReadWhole}
use Rattle.hd_run.specs.Report.{memory_text}
use Rattle.hd_run.specs.declared.fault.Fault.{Fault}
use Rattle.hd_run.specs.declared.fault.Fault.TheVariants.{BadLine, NoMemory, OverSize, Unread, Usage}
use Rattle.hd_view.specs.{Findings.FindsIn, Findings.FoundCause, Findings.IsWhy, Findings.Reports, Findings.found_status, Findings.found_text, Inside.IsFoundOf}
use Rattle.hd_view.specs.Why.{WhyPromise}
use Rattle.hd_view.specs.declared.finding.Finding.{Finding}
use Rattle.hd_view.specs.declared.finding.Finding.TheVariants.{NoRun, Refused, Run}

-- what is found of a text is found in its input
pub found_in : (b : Bounds) (bytes text : List ℕ) (lists : List (List Cmd)) → IsAuditInput bytes lists text
    → (found : Finding) → IsFoundOf (numbers_for b lists) lists text found → FindsIn b bytes found
found_in b bytes text lists input (Refused fault) none = absurd none
found_in b bytes text lists input Run run =
    record { lists = lists; text = text; input = input; says = run }
found_in b bytes text lists input (NoRun written) why =
    record { lists = lists; text = text; input = input; says = why }

-- and what is found in bytes that a source gave has its cause there
pub cause_in : (b : Bounds) (old new : SourceView) (bytes : List ℕ) → ReadWhole old new bytes → (found : Finding)
    → FindsIn b bytes found → FoundCause b old new found
cause_in b old new bytes read (Refused Usage) none = absurd none
cause_in b old new bytes read (Refused Unread) none = absurd none
cause_in b old new bytes read (Refused OverSize) none = absurd none
cause_in b old new bytes read (Refused (BadLine k)) bad = (bytes, read, bad)
cause_in b old new bytes read (Refused NoMemory) out =
    record { bytes = bytes; gave = read.all.gave; count = read.within }
cause_in b old new bytes read Run run = (bytes, read, run)
cause_in b old new bytes read (NoRun written) why = (bytes, read, why)

-- ---- by status

not_five : (f : Finding) → found_status f ≢ 5
not_five (Refused NoMemory) is = cc
not_five (Refused f) is = cc
not_five Run is = cc
not_five (NoRun written) is = cc

not_seven : (f : Fault) → found_status (Refused f) ≢ 7
not_seven NoMemory is = cc
not_seven f is = cc

module _ (b : Bounds) (old new : SourceView) (before after : SinkView) where
  is_status : (f : Finding) → FoundCause b old new f → Contains (0 ∷ 3 ∷ 4 ∷ 5 ∷ 6 ∷ 7 ∷ []) (found_status f)
  is_status (Refused Usage) cause = absurd cause
  is_status (Refused Unread) cause = (2, lit< tt, refl)
  is_status (Refused OverSize) cause = (1, lit< tt, refl)
  is_status (Refused (BadLine k)) cause = (1, lit< tt, refl)
  is_status (Refused NoMemory) cause = (4, lit< tt, refl)
  is_status Run cause = (0, lit< tt, refl)
  is_status (NoRun written) cause = (5, lit< tt, refl)

  right_of : (f : Finding) → FoundCause b old new f → found_status f ≡ 0 → Took before after (found_text f)
      → ReadBytes old new (HasRun b) × Took before after right_text
  right_of Run cause is took = (cause, took)
  right_of (Refused f) cause is took = absurd (no_whole f is)
  right_of (NoRun written) cause is took = cc

  wrong_of : (f : Finding) → FoundCause b old new f → found_status f ≡ 7 → Took before after (found_text f)
      → (written : List ℕ)
      × ReadBytes old new (λ bytes. IsJudged b bytes (λ n lists text. IsWhy n lists text written))
      × Took before after written
  wrong_of (NoRun written) cause is took = (written, cause, took)
  wrong_of (Refused f) cause is took = absurd (not_seven f is)
  wrong_of Run cause is took = absurd (omega (arith, is))

  script_of : (f : Finding) → FoundCause b old new f → found_status f ≡ 3 → Took before after (found_text f)
      → RefusesInput old new before after
  script_of (Refused OverSize) cause is took = inl (cause, took)
  script_of (Refused (BadLine k)) cause is took = inr (k, cause, took)
  script_of f cause is took = cc

  read_of : (f : Finding) → FoundCause b old new f → found_status f ≡ 4 → Rose old.faults new.faults
  read_of (Refused Unread) cause is = unread_rose IsNoAuditInput old new cause
  read_of f cause is = cc

  memory_of : (f : Finding) → found_status f ≡ 6 → Took before after (found_text f)
      → Took before after memory_text
  memory_of (Refused NoMemory) is took = took
  memory_of f is took = cc

  module _ (status : ℕ) (f : Finding) (cause : FoundCause b old new f) (said : Reports before after f status)
    where
      all : (k : ℕ) → status ≡ k → k ≢ 5 → (found_status f ≡ k) × Took before after (found_text f)
      all = reported_as before after (found_status f) (found_text f) status said

      pub promised : WhyPromise b old new before after status
      promised = record {
        work = (f, cause, said);
        right = λ s. let at = all 0 s (λ e. cc) in right_of f cause at.0 at.1;
        wrong = λ s. let at = all 7 s (λ e. cc) in wrong_of f cause at.0 at.1;
        script = λ s. let at = all 3 s (λ e. cc) in script_of f cause at.0 at.1;
        read = λ s. read_of f cause (all 4 s (λ e. cc)).0;
        write = write_rose before after (found_status f) (found_text f) status said (not_five f);
        memory = λ s. let at = all 6 s (λ e. cc) in memory_of f at.0 at.1;
        statuses = elim (status_cases before after (found_status f) (found_text f) status said) [
          | inl is ↦ subst (Contains (0 ∷ 3 ∷ 4 ∷ 5 ∷ 6 ∷ 7 ∷ [])) (sym is) (is_status f cause)
          | inr is ↦ subst (Contains (0 ∷ 3 ∷ 4 ∷ 5 ∷ 6 ∷ 7 ∷ [])) (sym is) (3, lit< tt, refl)
        ];
      }
