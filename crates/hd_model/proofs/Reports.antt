-- What the numbers of a report say of the states before and after.
use Rattle.hd_model.proofs.Basics.{Bool, Collected, Collects, Goes, Handle, Id, IsCondemned, IsRemoved, IsSome, IsSurviving, IsWhole, LosesAs, LosesTarget, None, Numbers, Option, Report, ReportSays, Role, Scene, Some, State, Stays, ap, arith, attaches, cases_Bool, cases_lt, cleared, cond-false, cond-true, false, false≢true, generation_at, get, holds, inl, inr, is_lost, is_object, is_some, len, length, length-append, long, loses, loses_by, none-some, older, option_map, refl, role, row_of, same_Some, scene_of, short, survivor, sym, true, true≢false, ℕ, ⊎_elim, ◌+◌, ◌<◌, ◌∙◌, ◌≡◌, ◌≢◌, ◌≤◌, ◌⊎◌}
use Rattle.hd_model.specs.Counting.{Counts}
use Rattle.hd_model.proofs.{Members.pairs_like, MapEntries.some_value, MapEntries.counts_keys, WholeScenes.whole_scene}
use Rattle.hd_model.proofs.PropertyCounts.{counts_once, counts_like, counts_join}
use Rattle.hd_model.proofs.SceneCollection.{keeps_root, object_before, still_object}

-- a handle that loses its target had one and has none after, by its role
lost_some : {N : Type 0} (p : N → Bool) (o : Option N) → is_lost p o ≡ true → is_some o ≡ true
lost_some p None h = h
lost_some p (Some x) h = refl

had_target : {N : Type 0} (r : Role) (reach kept : N → Bool) (o : Option N) → loses_by r reach kept o ≡ true
    → is_some o ≡ true
had_target holds reach kept o h = absurd (false≢true h)
had_target short reach kept o h = lost_some reach o h
had_target long reach kept o h = lost_some kept o h
had_target attaches reach kept o h = lost_some kept o h

module _ {N : Type 0} (rank : N → ℕ) (n : ℕ) (s t : Scene N) (r : Report) (w : IsWhole s)
    (c : Collects rank n s t r) where
  pub gone : (x : N) → c.kept x ≡ false → t.object x ≡ None
  gone x h =
      c.objects x ∙ cond-false (c.kept x) (option_map (survivor n (c.resurrected x)) (s.object x)) None h

  pub kept_since : (x : N) → is_object t.object x ≡ true → c.kept x ≡ true
  kept_since x h = let (o, e) = some_value (t.object x) h in (object_before rank n s t r w c x o e).0

  pub lost_since : (x : N) → t.object x ≡ None → (c.kept x ≡ true) ⊎ (c.kept x ≡ false) → c.kept x ≡ false
  lost_since x e k = ⊎_elim (λ kept. absurd
      (true≢false (sym (still_object rank n s t r w c x kept) ∙ ap is_some e))) (λ f. f) k

  -- what is removed is condemned: an older object is a root
  removed_young : (x : N) → c.kept x ≡ false → generation_at s.object x ≤ n
  removed_young x lost =
      ⊎_elim (λ above. absurd (true≢false (sym (keeps_root rank n s t r w c x (older above)) ∙ lost)))
      (λ l. l) (cases_lt n (generation_at s.object x))

  pub counts_condemned : Counts (IsCondemned s.object n) (r.kept + r.removed)
  counts_condemned =
      counts_like (λ x. IsSurviving n s c.kept x ⊎ IsRemoved s c.kept x) (IsCondemned s.object n)
      (r.kept + r.removed)
      (λ x h. ⊎_elim (λ (a : IsSurviving n s c.kept x). a.condemned)
      (λ (b : IsRemoved s c.kept x). record { object = b.object; young = removed_young x b.lost }) h)
      (λ x h. ⊎_elim (λ kept. inl (record { condemned = h; stays = kept }))
      (λ lost. inr (record { object = h.object; lost = lost }))
      (cases_Bool (c.kept x)))
      (counts_join (IsSurviving n s c.kept) (IsRemoved s c.kept) r.kept r.removed
      (λ x a b. true≢false (sym a.stays ∙ b.lost)) c.report_is.kept c.report_is.removed)

  pub counts_objects : (a b : ℕ) → Counts (λ x. is_object t.object x ≡ true) a
      → Counts (λ x. is_object s.object x ≡ true) b → a + r.removed ≡ b
  counts_objects a b after before =
      counts_once (λ x. is_object s.object x ≡ true) (a + r.removed) b
      (counts_like (λ x. (is_object t.object x ≡ true) ⊎ IsRemoved s c.kept x)
      (λ x. is_object s.object x ≡ true) (a + r.removed)
      (λ x h. ⊎_elim (was x) (λ (g : IsRemoved s c.kept x). g.object) h)
      (λ x h. ⊎_elim (λ kept. inl (still_object rank n s t r w c x kept))
      (λ lost. inr (record { object = h; lost = lost })) (cases_Bool (c.kept x)))
      (counts_join (λ x. is_object t.object x ≡ true) (IsRemoved s c.kept) a r.removed
      (λ x h g. true≢false (sym (kept_since x h) ∙ g.lost)) after c.report_is.removed))
      before
    where
      was : (x : N) → is_object t.object x ≡ true → is_object s.object x ≡ true
      was x h = let (o, e) = some_value (t.object x) h in
          let (p, both) = (object_before rank n s t r w c x o e).1 in ap is_some both.0

  pub counts_joins : (apart : (x y : N) → rank x < rank y → x ≢ y)
      → length t.queue ≡ length s.queue + r.revived
  counts_joins apart =
      let joined : Counts (λ x. c.resurrected x ≡ true) (length c.joins) = record {
        members = c.joins;
        apart = pairs_like (λ x y. rank x < rank y) (λ x y. x ≢ y) c.joins apart c.rising;
        each = λ x h. (c.joins_are x).1 h;
        all = λ x h. (c.joins_are x).0 h;
        number = refl;
      } in
      ap length c.queue ∙ length-append s.queue c.joins ∙ ap (λ k. length s.queue + k)
      (counts_once (λ x. c.resurrected x ≡ true) (length c.joins) r.revived joined c.report_is.resurrected)

-- a loss by the sets is a loss that the states show
module _ (n : ℕ) (s t : State) (r : Report) (w : IsWhole (scene_of s))
    (c : Collects (λ (x : Id). x.0) n (scene_of s) (scene_of t) r) (wanted : Role) where
  loss_shown : (slot : ℕ) → LosesAs (scene_of s) c.reach c.kept wanted slot → LosesTarget s t wanted slot
  loss_shown slot l = record {
    old = l.handle;
    was_stored = l.is_stored;
    role_is = l.role_is;
    had = had_target (role l.handle) c.reach c.kept l.handle.target l.loses;
    new = cleared c.reach c.kept l.handle;
    is_stored = c.handles slot ∙ ap (option_map (cleared c.reach c.kept)) l.is_stored;
    lost = cond-true (loses c.reach c.kept l.handle) None l.handle.target l.loses;
  }

  loss_meant : (slot : ℕ) → LosesTarget s t wanted slot → LosesAs (scene_of s) c.reach c.kept wanted slot
  loss_meant slot l = record {
    handle = l.old;
    is_stored = l.was_stored;
    role_is = l.role_is;
    loses = meant (loses c.reach c.kept l.old) refl;
  }
    where
      after : row_of t slot ≡ Some (cleared c.reach c.kept l.old)
      after = c.handles slot ∙ ap (option_map (cleared c.reach c.kept)) l.was_stored

      meant : (b : Bool) → loses c.reach c.kept l.old ≡ b → b ≡ true
      meant true e = refl
      meant false e =
          let (x, at) = some_value l.old.target l.had in
          let stays : (cleared c.reach c.kept l.old).target ≡ Some x =
          cond-false (loses c.reach c.kept l.old) None l.old.target e ∙ at in
          absurd (none-some x (sym l.lost
          ∙ ap (λ (h : Handle Id). h.target)
          (same_Some l.new (cleared c.reach c.kept l.old) (sym l.is_stored ∙ after)) ∙ stays))

  pub counts_losses : (k : ℕ) → Counts (LosesAs (scene_of s) c.reach c.kept wanted) k
      → Counts (LosesTarget s t wanted) k
  counts_losses k p = counts_like (LosesAs (scene_of s) c.reach c.kept wanted)
      (LosesTarget s t wanted) k loss_shown loss_meant p

pub counts_state : (s : State) → Counts (λ (x : Id). IsSome (get s.objects x.0)) (len s.objects)
counts_state s = counts_keys s.objects (λ k. record { 0 = k }) (λ x. x.0) (λ k. refl) (λ x. refl)

pub report_says : (m : Numbers) (n : ℕ) (s t : State) (r : Report) → Collected m n s t r → ReportSays n s t r
report_says m n s t r h =
    let c = h.collects.scene in
    let w = whole_scene m s h.well_formed in
    let rank : Id → ℕ = λ x. x.0 in
    let kept_is : Counts (Stays n s t) r.kept =
    counts_like (IsSurviving n (scene_of s) c.kept) (Stays n s t) r.kept
    (λ x a. (a.condemned, still_object rank n (scene_of s) (scene_of t) r w c x a.stays))
    (λ x a. record { condemned = a.0; stays = kept_since rank n (scene_of s) (scene_of t) r w c x a.1 })
    c.report_is.kept in
    let removed_is : Counts (Goes s t) r.removed =
    counts_like (IsRemoved (scene_of s) c.kept) (Goes s t) r.removed
    (λ x a. (a.object, gone rank n (scene_of s) (scene_of t) r w c x a.lost))
    (λ x a. record {
      object = a.0;
      lost = lost_since rank n (scene_of s) (scene_of t) r w c x a.1 (cases_Bool (c.kept x));
    }) c.report_is.removed
    in
    record {
      kept = kept_is;
      removed = removed_is;
      together = counts_condemned rank n (scene_of s) (scene_of t) r w c;
      objects = counts_objects rank n (scene_of s) (scene_of t) r w c (len t.objects) (len s.objects)
          (counts_state t) (counts_state s);
      short = counts_losses n s t r w c short r.short c.report_is.short;
      long = counts_losses n s t r w c long r.long c.report_is.long;
      dep = counts_losses n s t r w c attaches r.dep c.report_is.dep;
      resurrected = counts_joins rank n (scene_of s) (scene_of t) r w c
          (λ x y low same. let tied : x.0 ≡ y.0 = ap (λ (z : Id). z.0) same in absurd (omega arith));
    }
