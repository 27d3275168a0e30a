-- What is known of a text that was reported, by the status that was returned.
use Rattle.hd_run.proofs.Basics.{IsReported, List, Rose, SinkView, Took, inl, inr, subst, sym, ℕ, ◌∙◌, ◌≡◌, ◌≢◌, ◌⊎◌}

module _ (before after : SinkView) (own : ℕ) (text : List ℕ) (status : ℕ)
    (reported : IsReported before after own text status)
  where
    -- but on status 5 all was written
    pub reported_as : (k : ℕ) → status ≡ k → k ≢ 5 → (own ≡ k) × Took before after text
    reported_as k s other = elim reported [
      | inl (is, took) ↦ (sym is ∙ s, took)
      | inr (is, broke) ↦ absurd (other (sym s ∙ is))
    ]

    -- and then a write failed
    pub write_rose : own ≢ 5 → status ≡ 5 → Rose before.faults after.faults
    write_rose other s = elim reported [
      | inl (is, took) ↦ absurd (other (sym is ∙ s))
      | inr (is, broke) ↦ subst (λ n. Rose n after.faults) broke.took.unfailed broke.failed.rose
    ]

    -- the status is the text's own, or 5
    pub status_cases : (status ≡ own) ⊎ (status ≡ 5)
    status_cases = elim reported [ inl (is, took) ↦ inl is | inr (is, broke) ↦ inr is ]
