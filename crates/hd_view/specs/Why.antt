-- What `why` promises.
use Rattle.std.specs.Prelude.{◌≡◌, ℕ, List, [], ◌∷◌, Contains}
use Rattle.hd_io.specs.{Counts.Rose, Sink.SinkView, Sink.Took, Source.SourceView}
use Rattle.hd_run.specs.Audit.{HasRun, IsJudged, right_text}
use Rattle.hd_run.specs.AuditClaims.{RefusesInput}
use Rattle.hd_run.specs.Bounds.{Bounds}
use Rattle.hd_run.specs.Ending.{ReadBytes}
use Rattle.hd_run.specs.Report.{memory_text}
use Rattle.hd_view.specs.Findings.{FoundCause, IsWhy, Reports}
use Rattle.hd_view.specs.declared.finding.Finding.{Finding}

-- What a call promises, by what was seen of the source and of the sink, each before it and after it.
pub record WhyPromise (b : Bounds) (old new : SourceView) (before after : SinkView) (status : ℕ) : Type 0
  where
    -- something was found with a cause, and is reported
    pub work : (found : Finding) × FoundCause b old new found × Reports before after found status
    -- on status 0 the text is that of a run of the whole script, and the verdict is written
    pub right : status ≡ 0 → ReadBytes old new (HasRun b) × Took before after right_text
    -- on status 7 it is not, and the verdict and why are written
    pub wrong : status ≡ 7 → (written : List ℕ)
        × ReadBytes old new (λ bytes. IsJudged b bytes (λ n lists text. IsWhy n lists text written))
        × Took before after written
    -- each other status has a cause, as that of `hdt audit` has, and no other is returned
    pub script : status ≡ 3 → RefusesInput old new before after
    pub read : status ≡ 4 → Rose old.faults new.faults
    pub write : status ≡ 5 → Rose before.faults after.faults
    pub memory : status ≡ 6 → Took before after memory_text
    pub statuses : Contains (0 ∷ 3 ∷ 4 ∷ 5 ∷ 6 ∷ 7 ∷ []) status
