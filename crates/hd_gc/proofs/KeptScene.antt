-- The scene that a collection leaves in place, by what was found: what it references is kept.
use Rattle.hd_gc.proofs.Basics.{Addr, Basis, CLUMPS, Contains, Counts, ClearedCounts, GoesBy, IsCondemned, IsReady, IsRemoved, IsSurviving, IsWhole, LosesAs, MarkedAndCleared, NamesKept, Parts, PlanOf, Queue, Report, Reports, Scene, Some, Table, ap, attaches, counts_like, false, id_at, is_object, kept_in, left_by, left_from, length, long, object_at, objects_of, row_at, scene_of, short, subst, survivor, sym, true, whole_in_place, ℕ, ◌*◌, ◌∙◌, ◌≡◌, has_object}
use Rattle.hd_model.proofs.MapEntries.{some_value}

module _ {A : Parts} {t2 : Table} {q2 : Queue} {n : ℕ} {plan : PlanOf} {found : ClearedCounts}
    {report : Report} (ready : IsReady A)
    (sf : MarkedAndCleared A (record A { table = t2; queue = q2 }) n plan found)
    (rp : Reports plan found report) where
  abbrev S : Scene Addr
  S = scene_of A

  abbrev Left : Scene Addr
  Left = left_by n sf.sets.decision S

  abbrev Rank : Addr → ℕ
  Rank x = (id_at A.heap x).0

  kept_number : Counts (IsSurviving n S sf.sets.kept) report.kept
  kept_number =
      counts_like (λ a. IsCondemned (object_at A.heap) n a × (kept_in plan a ≡ true))
      (IsSurviving n S sf.sets.kept) report.kept
      (λ a w. record { condemned = w.0; stays = sym (sf.plan_kept a) ∙ w.1 })
      (λ a w. (w.condemned, sf.plan_kept a ∙ w.stays))
      (subst (λ (g : Basis). Counts (λ a. IsCondemned (objects_of g) g.condemned a × (kept_in plan a ≡ true))
      report.kept) sf.basis rp.kept)

  removed_number : Counts (IsRemoved S sf.sets.kept) report.removed
  removed_number =
      counts_like (λ a. (is_object (object_at A.heap) a ≡ true) × (kept_in plan a ≡ false))
      (IsRemoved S sf.sets.kept) report.removed
      (λ a w. record { object = w.0; lost = sym (sf.plan_kept a) ∙ w.1 })
      (λ a w. (w.object, sf.plan_kept a ∙ w.lost))
      (subst (λ (g : Basis). Counts (λ a. (is_object (objects_of g) a ≡ true) × (kept_in plan a ≡ false))
      report.removed) sf.basis rp.removed)

  pub goes_by : GoesBy Rank n S sf.sets.decision report
  goes_by = record {
    reach_is = sf.sets.reach_is;
    resurrected_is = sf.sets.resurrected_is;
    kept_is = sf.sets.kept_is;
    joins_are = sf.sets.joins_are;
    rising = sf.sets.rising;
    report_is = record {
      kept = kept_number;
      removed = removed_number;
      short = subst (λ k. Counts (LosesAs S sf.sets.reach sf.sets.kept short) k) (sym rp.short) sf.sets.short;
      long = subst (λ k. Counts (LosesAs S sf.sets.reach sf.sets.kept long) k) (sym rp.long) sf.sets.long;
      dep = subst (λ k. Counts (LosesAs S sf.sets.reach sf.sets.kept attaches) k) (sym rp.dep) sf.sets.dep;
      resurrected = subst (λ k. Counts (λ x. sf.sets.resurrected x ≡ true) k)
          (sym rp.resurrected) sf.sets.resurrections;
    };
  }

  pub whole_left : IsWhole Left
  whole_left = whole_in_place ready.whole goes_by

  -- what is in that scene is kept
  pub left_kept : (x : Addr) → is_object Left.object x ≡ true → kept_in plan x ≡ true
  left_kept x e =
      let (o, at) = some_value (Left.object x) e in
      sf.plan_kept x
      ∙ (left_from (sf.sets.kept x) (survivor n (sf.sets.resurrected x)) (object_at A.heap x) o at).0

  -- so is what the rows, the queue and the roots reference
  pub clumps_left : length A.ages ≡ CLUMPS * t2.blocks
  clumps_left = ready.clumps ∙ ap (λ b. CLUMPS * b) (sym sf.table.blocks)

  pub rows_kept : NamesKept (kept_in plan) (row_at t2)
  rows_kept = record {
    targets = λ slot g x is e. left_kept x (whole_left.targets slot g x (sym (sf.rows slot) ∙ is) e);
    secondaries = λ slot g x is e.
        left_kept x (whole_left.secondaries slot g x (sym (sf.rows slot) ∙ is) e);
  }

  pub queue_kept : (x : Addr) → Contains q2.queued x → kept_in plan x ≡ true
  queue_kept x is =
      left_kept x (whole_left.queue x (subst (λ (p : Queue). Contains p.queued x) sf.queue is))

  pub queue_objects : (x : Addr) → Contains q2.queued x → has_object A.heap x ≡ true
  queue_objects x is = sf.keeping.objects x (queue_kept x is)

  pub roots_kept : (x : Addr) → Contains A.roots (Some x) → kept_in plan x ≡ true
  roots_kept x names = left_kept x (whole_left.named x names)
