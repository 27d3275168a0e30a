-- What the status of a dialogue says, by how it ended.
use Rattle.std.proofs.Common.{Bool, refl, subst, ℕ, ◌≡◌}
use Rattle.std.specs.Prelude.{if◌then◌else◌}
use Rattle.hd_io.specs.Sink.{SinkView}
use Rattle.hd_io.specs.Source.{SourceView}
use Rattle.hd_model.specs.State.{Numbers}
use Rattle.hd_step.specs.declared.stop.Stop.{Stop}
use Rattle.hd_step.specs.Ending.{Conversed, StoppedIn}
use Rattle.hd_talk.specs.Answers.{Answers, HasFault}
use Rattle.hd_talk.specs.Talked.{Talked, ended, stop_status, stopped}

module _ {m n : Numbers} {source after : SourceView} {out new : SinkView} (same : m ≡ n) where
  pub came : (bad : Bool) → Conversed Answers HasFault m source after out new bad → (t : Bool) → bad ≡ t
      → Talked n source after out new (if t then 3 else 0)
  came bad done t is =
      ended t (subst (λ (b : Bool). Conversed Answers HasFault n source after out new b) is
      (subst (λ (k : Numbers). Conversed Answers HasFault k source after out new bad) same done)) refl

  pub broke : (why : Stop) → StoppedIn Answers HasFault m source after out new why → (status : ℕ) → status ≡ stop_status why
      → Talked n source after out new status
  broke why h status is =
      stopped why (subst (λ (k : Numbers). StoppedIn Answers HasFault k source after out new why) same h) is
