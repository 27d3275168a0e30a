-- The phases between the start of the marks and the plan, one after another.
use Rattle.hd_gc.proofs.Basics.{Addr, Basis, Bool, CLUMP, Clears, Contains, Counts, Decides, FoundSets, IsAllDetached, IsClosed, IsCondemned, IsField, IsKeeping, IsLaid, IsLostAt, IsOut, IsPinned, IsReady, IsSameTable, IsSettledMarks, List, MarkedAndCleared, MarksOf, MayRevive, Objects, Parts, PlanOf, Queue, Resurrected, Resurrection, Scene, Table, Traced, ap, arith, basis_of, cases_lt, counts_like, generation_at, has_role, held, id_at, inl, is_after, is_object, kept_in, length, long, long_tasks, object_at, objects_of, pinned_held, pinned_in, forwarding_in, promoted_in, queued, reached_on, refl, root_reached, row_at, same_table_on, scene_of, short, short_tasks, stays_in, subst, sym, task_visits, true, visits_of, visits_same, ℕ, ⊎_elim, ◌*◌, ◌+◌, ◌∙◌, ◌≡◌, cleared_steps, ◌≤◌}
use Rattle.std.specs.Set.{is_member}
use Rattle.std.proofs.lemmas.Map.Made.{is_member-Decides}
use Rattle.hd_final.proofs.QueueRevive.{address_decides, is_address}
use Rattle.hd_mark.specs.Marks.{log_of}
use Rattle.hd_gc.proofs.ClearedRows.{tasks_alike}
use Rattle.hd_gc.proofs.KeptObjects.{edge_before, resurrected_decides, kept_decides, resurrections_counted}
use Rattle.hd_gc.proofs.LostTargets.{cleared_rows, short_losses, long_losses, dependent_losses}
use Rattle.hd_model.specs.declared.data.Kind.TheVariants as kind

-- what is kept is in the log of settled marks, each once
pub log_counts : (m : MarksOf) (g : Basis) (count : ℕ) → m.basis ≡ g → IsSettledMarks m
    → count ≡ length (log_of m)
    → Counts (λ x. IsCondemned (objects_of g) g.condemned x × (promoted_in m x ≡ true)) count
log_counts m g count over s is =
    subst (λ (b : Basis). Counts (λ x. IsCondemned (objects_of b) b.condemned x × (promoted_in m x ≡ true))
    count) over (record {
      members = log_of m;
      apart = s.log.apart;
      each = s.log.each;
      all = λ x w. s.log.all x w.0 w.1;
      number = sym is;
    })

-- up to the clearing of short handles
module _ {A : Parts} {n : ℕ} {m1 : MarksOf} (ready : IsReady A) (tr : Traced A n m1)
    {t1 : Table} {short_n : ℕ} (clear1 : Clears (has_role short) A.table t1 m1 short_n) where
  abbrev S : Scene Addr
  S = scene_of A

  abbrev O : Objects Addr
  O = object_at A.heap

  pub may_revive : MayRevive (record A { table = t1 }) m1
  may_revive = record {
    cards = ready.cards_sound;
    edges = λ x y e f. (tr.reach_is y).1 (reached_on n S x y ((tr.reach_is x).0 e)
        (edge_before short (promoted_in m1) (row_at A.table) (row_at t1) clear1.whole.swept refl O x y f));
    queued = λ x is. (tr.reach_is x).1 (root_reached n S x (queued is));
    identities = ready.identities;
    room = ready.room;
  }

  -- the room that was taken for dependent handles is still enough
  pub room_enough : {room : ℕ} → CLUMP * visits_of A.table A.ages n kind.Dependent ≤ room
      → CLUMP * visits_of t1 A.ages n kind.Dependent ≤ room
  room_enough few = omega (arith, few, visits_same A.table t1 A.ages n kind.Dependent clear1.table)

  -- up to that of long ones
  module _ {m3 : MarksOf} {after : List Addr}
      (rv : Resurrected (record A { table = t1 }) n m1 m3 after) {t2 : Table} {long_n : ℕ}
      (clear2 : Clears (has_role long) t1 t2 m3 long_n) where
    pub closed4 : IsClosed (IsField O) (promoted_in m3)
    closed4 x y e f = rv.resurrection.closed x y e (inl f)

    abbrev Reach : Addr → Bool
    Reach = promoted_in m1

    abbrev Kept : Addr → Bool
    Kept = promoted_in m3

    resurrection : Resurrection (λ x. (id_at A.heap x).0) (record S { handle = row_at t1 }) n
        Reach Kept after
    resurrection = rv.resurrection

    held_kept : (x : Addr) → IsPinned S.handle x → promoted_in m3 x ≡ true
    held_kept x p =
        resurrection.keeps x ((tr.reach_is x).1 (root_reached n S x (held (pinned_held S.handle x p))))

    same12 : IsSameTable A.table t2
    same12 = same_table_on A.table t1 t2 clear1.table clear2.table

    pub steps_cleared : (s1 : ℕ) {s2 s3 s4 s5 : ℕ} → s2 ≡ s1 + task_visits A.table A.ages n short_tasks
        → s3 ≡ s2 + visits_of t1 A.ages n kind.Dependent → s4 ≡ s3 + task_visits t1 A.ages n long_tasks
        → s5 ≡ s4 + visits_of t2 A.ages n kind.Dependent → s5 ≡ cleared_steps A.table A.ages n s1
    steps_cleared s1 e2 e3 e4 e5 =
        let known = tasks_alike A.ages n long_tasks clear1.table in
        let also = visits_same A.table t1 A.ages n kind.Dependent clear1.table in
        let more = visits_same A.table t2 A.ages n kind.Dependent same12 in
        omega (arith, e2, e3, e4, e5, known, also, more)

    -- up to that of dependent ones
    module _ {t3 : Table} {dep_n : ℕ} (detaches : IsAllDetached Kept (row_at t2) (row_at t3))
        (same3 : IsSameTable t2 t3) (lost : Counts (IsLostAt (row_at t2) Kept) dep_n)
        {resurrected_n : ℕ} (resurrections : Counts (IsOut O n Reach) resurrected_n) {kept_n : ℕ}
        (kept : Counts (λ x. IsCondemned O n x × (Kept x ≡ true)) kept_n) where
      joins_are : (x : Addr)
          → Decides (is_member is_address resurrection.joins x) (Contains resurrection.joins x)
      joins_are = is_member-Decides address_decides resurrection.joins

      pub sets : FoundSets A n (record {
        kept = kept_n;
        short = short_n;
        long = long_n;
        dep = dep_n;
        revived = resurrected_n;
      })
      sets = record {
        decision = record {
          reach = Reach;
          resurrected = is_member is_address resurrection.joins;
          kept = Kept;
          joins = resurrection.joins;
        };
        reach_is = tr.reach_is;
        resurrected_is =
            resurrected_decides S n Reach tr.reach_is clear1.whole.swept resurrection joins_are;
        kept_is = kept_decides S n Reach tr.reach_is clear1.whole.swept resurrection;
        joins_are = joins_are;
        rising = resurrection.rising;
        short =
            short_losses S Reach Kept clear1.whole.swept clear2.whole.swept detaches short_n
            clear1.whole.count;
        long =
            long_losses S Reach Kept clear1.whole.swept clear2.whole.swept detaches long_n clear2.whole.count;
        dep = dependent_losses S Reach Kept clear1.whole.swept clear2.whole.swept detaches dep_n lost;
        resurrections =
            resurrections_counted S n Reach tr.reach_is clear1.whole.swept resurrection joins_are
            resurrected_n resurrections;
      }

      module _ {plan : PlanOf} {g : Basis} (laid : IsLaid plan) (start : g ≡ basis_of A n)
          (same : plan.basis ≡ g) (plan_kept : (a : Addr) → kept_in plan a ≡ Kept a)
          (in_place : (a : Addr) → Kept a ≡ true → pinned_in m3 a ≡ true → forwarding_in plan a ≡ a)
          (stay : Counts (λ a. IsCondemned (objects_of g) g.condemned a
          × (Kept a ≡ true) × (pinned_in m3 a ≡ true)) (stays_in plan)) where
        basis : plan.basis ≡ basis_of A n
        basis = same ∙ start

        keeping : IsKeeping O n (kept_in plan) (forwarding_in plan)
        keeping =
            subst (λ (g : Basis). IsKeeping (objects_of g) g.condemned (kept_in plan) (forwarding_in plan))
            basis
            laid.keeping

        pinned_target : (x : Addr) → IsPinned S.handle x → forwarding_in plan x ≡ x
        pinned_target x p =
            ⊎_elim (λ above. keeping.in_place x above)
            (λ low.
            let object : is_object O x ≡ true = ready.whole.targets p.slot p.handle x p.is_stored p.target in
            in_place x (held_kept x p)
            (ap (λ r. r x) rv.pinned ∙ (tr.pins x (record { object = object; young = low })).1 p))
            (cases_lt n (generation_at O x))

        stays_are : Counts (λ a. IsCondemned O n a × IsPinned S.handle a) (stays_in plan)
        stays_are =
            counts_like (λ a. IsCondemned O n a × (Kept a ≡ true) × (pinned_in m3 a ≡ true))
            (λ a. IsCondemned O n a × IsPinned S.handle a) (stays_in plan)
            (λ a w. (w.0, (tr.pins a w.0).0 (ap (λ r. r a) (sym rv.pinned) ∙ w.2)))
            (λ a w. (w.0, held_kept a w.1, ap (λ r. r a) rv.pinned ∙ (tr.pins a w.0).1 w.1))
            (subst (λ (g : Basis). Counts (λ a. IsCondemned (objects_of g) g.condemned a
            × (Kept a ≡ true) × (pinned_in m3 a ≡ true)) (stays_in plan)) start stay)

        pub marked_and_cleared : {q2 : Queue} → q2.queued ≡ after → q2.room ≡ A.queue.room
            → MarkedAndCleared A (record A { table = t3; queue = q2 }) n plan (record {
              kept = kept_n;
              short = short_n;
              long = long_n;
              dep = dep_n;
              revived = resurrected_n;
            })
        unfolding sets
        marked_and_cleared is_after room = record {
          sets = sets;
          rows = cleared_rows S Reach Kept clear1.whole.swept clear2.whole.swept detaches;
          table = same_table_on A.table t2 t3 same12 same3;
          queue = λ i. record { queued = (is_after ∙ resurrection.queue_is) i; room = room i };
          laid = laid;
          basis = basis;
          keeping = keeping;
          plan_kept = plan_kept;
          pinned = pinned_target;
          stays = stays_are;
          kept = counts_like (λ x. IsCondemned O n x × (Kept x ≡ true))
              (λ x. IsCondemned O n x × (kept_in plan x ≡ true)) kept_n
              (λ x w. (w.0, plan_kept x ∙ w.1)) (λ x w. (w.0, sym (plan_kept x) ∙ w.1)) kept;
        }
