-- A weak short handle and a weak long one with one target, over a collection.
use Rattle.hd_model.specs.{declared.data.Id.Id, declared.data.Report.Report}
use Rattle.hd_model.proofs.Basics.{Collects, CollectsState, Counts, IsReached, IsRescued, IsToBeFinalized, IsWhole, None, Some, State, ap, arith, cases_Bool, cleared, cond-false, cond-true, false, is_lost, length, loses, loses_by, not, scene_of, sym, true, true≢false, ℕ, ⊎_elim, ◌<◌, ◌∙◌, ◌≡◌}
use Rattle.hd_laws.proofs.Basics.{FareAlike, FareApart, FinalizationPartsWeakHandles, IsWeakPair, WeakHandlesFareAlike}
use Rattle.hd_model.proofs.{EdgeChains.leads_on, WholeScenes.whole_scene, UseChains.Edge}
use Rattle.hd_model.proofs.Fates.{rescued_kept, handle_after, handle_stays, handle_null, reach_in_kept, unused_out}

-- no thing has a property that 0 things have
pub none_counted : {A : Type 0} (P : A → Type 0) (c : ℕ) → Counts P c → c ≡ 0 → (x : A) → P x → ⊥
none_counted P c p none x h =
    let low : (p.all x h).0 < length p.members = (p.all x h).1 in
    let number : length p.members ≡ c = p.number in omega arith

module _ (n : ℕ) (s t : State) (r : Report) (w : IsWhole (scene_of s))
    (did : CollectsState n s t r) (a b : ℕ) (x : Id) (p : IsWeakPair s a b x) where
  abbrev c : Collects (λ (y : Id). y.0) n (scene_of s) (scene_of t) r
  c = did.scene

  -- where nothing is resurrected, what is kept is reached
  kept_reached : r.revived ≡ 0 → c.kept x ≡ true → c.reach x ≡ true
  kept_reached none kept =
      let (start, rest) = (c.kept_is x).0 kept in
      ⊎_elim
      (λ (reached : IsReached (scene_of s) n start).
      (c.reach_is x).1 (reached.0, (reached.1.0, leads_on (Edge s) reached.1.1 rest.1)))
      (λ (v : IsToBeFinalized (scene_of s) n start). absurd
      (none_counted (λ y. c.resurrected y ≡ true) r.revived c.report_is.resurrected none start
      ((c.resurrected_is start).1 v)))
      rest.0

  both_stay : c.reach x ≡ true → FareAlike t a b
  both_stay reached = record {
    target = Some x;
    by_short = record {
      handle = p.weak_short;
      is_stored = handle_stays n s t r w did a p.weak_short x p.short_is_stored p.short_target reached
          (reach_in_kept n s t r w did x reached);
      target = p.short_target;
    };
    by_long = record {
      handle = p.weak_long;
      is_stored = handle_stays n s t r w did b p.weak_long x p.long_is_stored p.long_target reached
          (reach_in_kept n s t r w did x reached);
      target = p.long_target;
    };
  }

  both_null : c.reach x ≡ false → c.kept x ≡ false → FareAlike t a b
  both_null unreached lost = record {
    target = None;
    by_short = handle_null n s t r w did a p.weak_short x p.short_is_stored p.short_target unreached lost;
    by_long = handle_null n s t r w did b p.weak_long x p.long_is_stored p.long_target unreached lost;
  }

  pub fare_alike : r.revived ≡ 0 → FareAlike t a b
  fare_alike none =
      ⊎_elim (λ kept. both_stay (kept_reached none kept))
      (λ lost. ⊎_elim
      (λ reached. absurd (true≢false (sym (reach_in_kept n s t r w did x reached) ∙ lost)))
      (λ unreached. both_null unreached lost) (cases_Bool (c.reach x)))
      (cases_Bool (c.kept x))

  -- the short one loses what is not reached, and the long one has what is kept
  pub fare_apart : IsRescued n s x → FareApart t a b x
  fare_apart h =
      let unreached : c.reach x ≡ false = unused_out n s t r w did x h.out_of_use in
      let short_loses : loses c.reach c.kept p.weak_short ≡ true =
      ap (λ q. loses_by q c.reach c.kept p.weak_short.target) p.short_role
      ∙ ap (is_lost c.reach) p.short_target ∙ ap not unreached in
      let long_stays : loses c.reach c.kept p.weak_long ≡ false =
      ap (λ q. loses_by q c.reach c.kept p.weak_long.target) p.long_role
      ∙ ap (is_lost c.kept) p.long_target ∙ ap not (rescued_kept n s t r w did x h) in
      record {
        by_short = record {
          handle = cleared c.reach c.kept p.weak_short;
          is_stored = handle_after n s t r w did a p.weak_short p.short_is_stored;
          target = cond-true (loses c.reach c.kept p.weak_short) None p.weak_short.target short_loses;
        };
        by_long = record {
          handle = cleared c.reach c.kept p.weak_long;
          is_stored = handle_after n s t r w did b p.weak_long p.long_is_stored;
          target = cond-false (loses c.reach c.kept p.weak_long) None p.weak_long.target long_stays
              ∙ p.long_target;
        };
      }

pub weak_handles_fare_alike : WeakHandlesFareAlike
weak_handles_fare_alike m n s t r a b x h none pair =
    fare_alike n s t r (whole_scene m s h.well_formed) h.collects a b x pair none

pub finalization_parts_weak_handles : FinalizationPartsWeakHandles
finalization_parts_weak_handles m n s t r a b x h rescued pair =
    fare_apart n s t r (whole_scene m s h.well_formed) h.collects a b x pair rescued
