-- What `run` and `load` promise, from the cause of their ending and its report.
use Rattle.hd_run.proofs.Basics.{Cmd, Contains, Done, Ending, Fault, KeepsRun, List, Nothing, Numbers, Option, Outcome, Output, RanAllTogether, Refused, Reports, RootId, RunCause, Shared, SinkView, Stopped, StoppedTogether, Together, Took, WorldView, [], ap, fault_status, in_threads, inl, inr, journal_in, kept_of, lit<, ran_text, refl, status_of, stopped_text, subst, sym, text_for, whole_text, world_of, ℕ, ◌∙◌, ◌∷◌, ◌≡◌, ◌≢◌, ◌⊎◌}
use Rattle.hd_run.proofs.ReadFaults.{no_whole}
use Rattle.hd_run.proofs.ReportedTexts.{reported_as, status_cases, write_rose}
use Rattle.hd_run.proofs.RunEndings.{not_five, nothing_reported, run_keeps}
use Rattle.hd_run.proofs.CallClaims.{kept_handles}
use Rattle.hd_run.specs.declared.ending.Ran.TheVariants as ran

module _ (n : Numbers) (lists : List (List Cmd)) where
  run_status : (e : Ending) → RunCause in_threads n lists e → Contains (0 ∷ 5 ∷ 6 ∷ []) (status_of e)
  run_status (Refused f) is = (2, lit< tt, ap fault_status (sym is))
  run_status (Stopped run) at = (2, lit< tt, refl)
  run_status (Done run roots) all = (0, lit< tt, refl)

  module _ (output : Output) (before after : SinkView) where
    whole_of : (e : Ending) → RunCause in_threads n lists e → status_of e ≡ 0 →
        Took before after (text_for output e) → (w : WorldView) × (kept_of e ≡ Shared w)
        × RanAllTogether n lists w × Took before after (whole_text output w)
    whole_of (Refused f) cause is took = absurd (no_whole f is)
    whole_of (Stopped run) at is took = cc
    whole_of (Done (ran.Alone w) roots) all is took = absurd all.0
    whole_of (Done (ran.Shared w) roots) all is took = (
      w,
      refl,
      all.0,
      subst (λ (rs : Option (List RootId)). Took before after (ran_text output w rs)) all.1 took,
    )

    abbrev Wants : Ending → Type 0
    Wants e = ((kept_of e ≡ Nothing) ⊎ ((w : WorldView) × (kept_of e ≡ Shared w) × StoppedTogether n lists w))
        × Took before after (stopped_text output (journal_in (world_of (kept_of e))))

    memory_of : (e : Ending) → RunCause in_threads n lists e → status_of e ≡ 6 →
        Took before after (text_for output e) → Wants e
    memory_of (Refused f) cause is took = (
      inl refl,
      subst (Took before after) (nothing_reported output)
          (subst (λ (k : Fault). Took before after (text_for output (Refused k))) cause took),
    )
    memory_of (Stopped (ran.Alone w)) at is took = absurd at
    memory_of (Stopped (ran.Shared w)) at is took = (inr (w, refl, at), took)
    memory_of (Done run roots) all is took = cc

module _ {K : Type 0} (shown : K → SinkView) (output : Output) (n : Numbers) (lists : List (List Cmd))
    (sink_old sink_new : K) (e : Ending) (o : Outcome) (cause : RunCause in_threads n lists e)
    (reports : Reports (shown sink_old) (shown sink_new) output e o) where
  run_kept : KeepsRun o.kept
  run_kept = subst KeepsRun (sym reports.kept) (run_keeps in_threads n lists e cause)

  abbrev before : SinkView
  before = shown sink_old

  abbrev after : SinkView
  after = shown sink_new

  all : (k : ℕ) → o.status ≡ k → k ≢ 5 → (status_of e ≡ k) × Took before after (text_for output e)
  all = reported_as before after (status_of e) (text_for output e) o.status reports.written

  pub together : Together shown output n lists sink_old sink_new o
  together = record {
    work = (e, cause, reports);
    whole = λ s. let at = all 0 s (λ f. cc) in
        let says = whole_of n lists output before after e cause at.0 at.1 in
        (says.0, reports.kept ∙ says.1, says.2, says.3);
    write = write_rose before after (status_of e) (text_for output e) o.status reports.written (not_five e);
    memory = λ s. let at = all 6 s (λ f. cc) in
        subst (λ k. ((k ≡ Nothing) ⊎ ((w : WorldView) × (k ≡ Shared w) × StoppedTogether n lists w))
        × Took before after (stopped_text output (journal_in (world_of k)))) (sym reports.kept)
        (memory_of n lists output before after e cause at.0 at.1);
    statuses = elim (status_cases before after (status_of e) (text_for output e) o.status reports.written) [
      | inl is ↦ subst (Contains (0 ∷ 5 ∷ 6 ∷ [])) (sym is) (run_status n lists e cause)
      | inr is ↦ subst (Contains (0 ∷ 5 ∷ 6 ∷ [])) (sym is) (1, lit< tt, refl)
    ];
    sink_faults = λ five. (all o.status refl five).1.unfailed;
    journal = run_kept;
    handles = kept_handles o.kept run_kept;
  }
