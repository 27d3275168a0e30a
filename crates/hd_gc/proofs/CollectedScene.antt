-- The scene that a collection leaves, by address: what was left, at its new addresses.
use Rattle.hd_gc.proofs.Basics.{Addr, Basis, Bool, Collected, Collects, Counts, ClearedCounts, Handle, HasIdentities, HasSoundAges, Heap, IsCondemned, IsPinned, IsReading, IsReady, IsSameTable, IsWhole, LEFT, LeavesPacked, MarkedAndCleared, None, OPEN, Object, Option, Parts, Placed, PlanOf, Queue, Report, Reports, Scene, Some, Table, Unregisters, all_kinds, ap, arith, cleared, collected_steps, cond, cond-true, counts_le, counts_named, counts_once, counts_where, drop, drop-append_seam, faded_ages, fades_cleared, false, get, has_object, held, holds, id_at, is_attaching, is_due, is_lost, is_object, is_some, kept_in, le_trans, left_by, len, length, length-map, loses, loses_by, map, moved_ages, moved_by_identity, moved_object, moved_whole, object_at, object_in, option_map, pinned_held, pins_hold, forwarding_in, raised, reached_kept, refl, region_generation, region_of, rename_handle, rename_object, role, root_reached, row_at, same_table_on, scene_of, stays_in, subst, survivor, sym, true, true≢false, undue_in_place, unregistered, used_of, visits_alike, visits_over, ℕ, ◌&&◌, ◌*◌, ◌+◌, ◌/◌, ◌∙◌, ◌≡◌, ◌≤◌, marked_steps}
use Rattle.std.proofs.Math.Bool.{and-false, and-true}
use Rattle.hd_model.specs.{declared.data.Id.Id, Compact.IsCompact}
use Rattle.hd_model.proofs.{RenamedPins.pins_renamed, IdleCollection.cleared_same, RenamedReach.is_object_read, PinnedTargets.counts_objects, PinnedTargets.pinned_count}
use Rattle.hd_model.specs.Heap.{id_in}
use Rattle.hd_final.proofs.QueueRevive.{one_identity}
use Rattle.hd_plan.specs.PackedRegions.{IsPacked}
use Rattle.hd_gc.proofs.{LostRegistrations.same_used, LostRegistrations.same_full, KeptScene.goes_by, KeptScene.left_kept}
use Rattle.hd_model.specs.Ages.{grown}
use Rattle.hd_plan.specs.Commit.{Commits}
use Rattle.hd_gc.specs.Inside.{IsRenamed}

-- the registrations of those that joined last are gone, objects are at their new addresses, all references in
-- visited slots, in the queue and in the roots are to these, and ages are raised
pub record RelocatedAll (p q : Parts) (plan : PlanOf) (joined n before after : ℕ) : Type 0 where
  pub middle : Heap
  pub unregisters : Unregisters (drop joined p.queue.queued) p.heap middle
  pub commits : Commits plan middle q.heap
  pub rows : IsRenamed p.ages n (forwarding_in plan) (row_at p.table) (row_at q.table)
  pub table : IsSameTable p.table q.table
  pub queue : q.queue ≡ record p.queue { queued = map (forwarding_in plan) p.queue.queued }
  pub named : q.roots ≡ map (option_map (forwarding_in plan)) p.roots
  pub aged : q.ages ≡ grown n p.ages
  pub steps : after ≡ before + visits_over p.table p.ages n all_kinds

-- an object that was resurrected loses its registration before it moves
registered_by : (resurrected : Bool) → Option (Object Addr) → Option (Object Addr)
registered_by true o = option_map unregistered o
registered_by false o = o

moved_survivor : (forwarding : Addr → Addr) (n : ℕ) (resurrected : Bool) (v : Option (Object Addr))
    → option_map (moved_object forwarding n) (registered_by resurrected v)
    ≡ option_map (rename_object forwarding) (option_map (survivor n resurrected) v)
unfolding registered_by
moved_survivor forwarding n true None = refl
moved_survivor forwarding n true (Some o) =
    λ i. Some (record (moved_object forwarding n o) { registered = sym (and-false o.registered) i })
moved_survivor forwarding n false None = refl
moved_survivor forwarding n false (Some o) =
    λ i. Some (record (moved_object forwarding n o) { registered = sym (and-true o.registered) i })

module _ {A Z : Parts} {t2 : Table} {q2 : Queue} {n : ℕ} {plan : PlanOf} {found : ClearedCounts}
    {report : Report} {joined s1 s2 : ℕ} (ready : IsReady A)
    (sf : MarkedAndCleared A (record A { table = t2; queue = q2 }) n plan found)
    (rp : Reports plan found report)
    (sh : RelocatedAll (record A { table = t2; queue = q2 }) Z plan joined n s1 s2)
    (joined_is : joined ≡ length A.queue.queued) where
  abbrev S : Scene Addr
  S = scene_of A

  abbrev T : Scene Addr
  T = scene_of Z

  abbrev Left : Scene Addr
  Left = left_by n sf.sets.decision S

  abbrev Place : Addr → Addr
  Place = forwarding_in plan

  abbrev Rank : Addr → ℕ
  Rank x = (id_at A.heap x).0

  -- those that joined last are those that were resurrected
  unregisters : Unregisters sf.sets.joins A.heap sh.middle
  unregisters =
      subst (λ xs. Unregisters xs A.heap sh.middle)
      ((λ i. drop (joined_is i) (sf.queue i).queued) ∙ drop-append_seam A.queue.queued sf.sets.joins)
      sh.unregisters

  object_middle : (x : Addr)
      → object_at sh.middle x ≡ registered_by (sf.sets.resurrected x) (object_at A.heap x)
  unfolding registered_by
  object_middle x = by (sf.sets.resurrected x) refl
    where
      by : (b : Bool) → sf.sets.resurrected x ≡ b
          → object_at sh.middle x ≡ registered_by b (object_at A.heap x)
      by true e = unregisters.among x ((sf.sets.joins_are x).0 e)
      by false e =
          unregisters.others x (λ inside. true≢false (sym ((sf.sets.joins_are x).1 inside) ∙ e))

  generation_is : plan.basis.condemned ≡ n
  generation_is = ap (λ (g : Basis). g.condemned) sf.basis

  object_moved : (x : Addr) → is_object Left.object x ≡ true
      → T.object (Place x) ≡ option_map (rename_object Place) (Left.object x)
  object_moved x e =
      let kept : kept_in plan x
      ≡ true = left_kept ready sf rp x e
      in
      sh.commits.objects x kept
      ∙ (λ i. option_map (moved_object Place (generation_is i)) (object_middle x i))
      ∙ moved_survivor Place n (sf.sets.resurrected x) (object_at A.heap x)
      ∙ ap (option_map (rename_object Place))
      (sym (cond-true (sf.sets.kept x)
      (option_map (survivor n (sf.sets.resurrected x)) (object_at A.heap x)) None
      (sym (sf.plan_kept x) ∙ kept)))

  -- what is kept is in what is left
  in_left : (x : Addr) → kept_in plan x ≡ true → is_object Left.object x ≡ true
  in_left x kept =
      ap is_some (cond-true (sf.sets.kept x)
      (option_map (survivor n (sf.sets.resurrected x)) (object_at A.heap x)) None
      (sym (sf.plan_kept x) ∙ kept))
      ∙ by (object_at A.heap x) ∙ sf.keeping.objects x kept
    where
      by : (o : Option (Object Addr))
          → is_some (option_map (survivor n (sf.sets.resurrected x)) o) ≡ is_some o
      by None = refl
      by (Some o) = refl

  ages_after : HasSoundAges (object_at A.heap) (row_at t2) A.ages
  ages_after =
      faded_ages (row_at A.table) (row_at t2) (object_at A.heap)
      (fades_cleared (row_at A.table) (row_at t2) sf.sets.reach sf.sets.kept sf.rows) A.ages ready.ages_sound

  row_renamed : (slot : ℕ) (o : Option (Handle Addr)) → row_at t2 slot ≡ o
      → option_map (λ g. cond (is_due A.ages n slot) (rename_handle Place g) g) o
      ≡ option_map (rename_handle Place) o
  row_renamed slot None e = refl
  row_renamed slot (Some g) e = by (is_due A.ages n slot) refl
    where
      by : (due : Bool) → is_due A.ages n slot ≡ due
          → Some (cond due (rename_handle Place g) g) ≡ Some (rename_handle Place g)
      by true at = refl
      by false at =
          ap (λ k. Some k)
          (sym (undue_in_place (object_at A.heap) n (row_at t2) A.ages ages_after slot g e at Place
          sf.keeping.in_place))

  pub moved : IsReading Place (left_by n sf.sets.decision S) T
  moved = record {
    objects = object_moved;
    only = λ b e.
        let (x, both) = sh.commits.only b e in (x, (in_left x both.0, both.1));
    apart = λ x y a b same. sf.keeping.apart x y (left_kept ready sf rp x a) (left_kept ready sf rp y b) same;
    handles = λ slot. sh.rows slot ∙ row_renamed slot (row_at t2 slot) refl
        ∙ ap (option_map (rename_handle Place)) (sf.rows slot);
    named = sh.named;
    queue = ap (λ (p : Queue). p.queued) sh.queue ∙ ap (λ (p : Queue). map Place p.queued) sf.queue;
  }

  same_id : (x : Addr) → kept_in plan x ≡ true → id_at Z.heap (Place x) ≡ id_at A.heap x
  same_id x kept = sh.commits.ids x kept ∙ unregisters.ids x

  pub collects : (u v : Scene Id) → IsReading (id_at A.heap) S u → IsReading (id_at Z.heap) T v
      → Collects (λ (x : Id). x.0) n u v report
  collects u v fs gt =
      moved_by_identity (id_at A.heap) (id_at Z.heap) n S T u v sf.sets.decision report Place
      (len A.heap.objects) (counts_objects A.heap) ready.whole fs gt (goes_by ready sf rp) moved
      (λ x kept. same_id x (sf.plan_kept x ∙ kept))

  whole_after : IsWhole T
  whole_after = moved_whole ready.whole (goes_by ready sf rp) moved

  identities_after : HasIdentities Z.heap
  identities_after a b p r at_a at_b same =
      let (x, left) = found_at a p at_a in
      let (y, right) = found_at b r at_b in
      let names = one_identity A.heap ready.identities x y (sf.keeping.objects x left.0)
      (sf.keeping.objects y right.0)
      (ap (λ (i : Id). i.0) (sym (same_id x left.0) ∙ ap (id_at Z.heap) left.1 ∙ ap id_in at_a ∙ same
      ∙ sym (ap id_in at_b) ∙ sym (ap (id_at Z.heap) right.1) ∙ same_id y right.0)) in
      ap (λ (z : Addr). z.0) (sym left.1 ∙ ap Place names ∙ right.1)
    where
      found_at : (a : ℕ) (p : Placed) → get Z.heap.objects a ≡ Some p
          → (x : Addr) × ((kept_in plan x ≡ true) × (Place x ≡ record { 0 = a }))
      found_at a p at =
          let c : Addr = record { 0 = a } in
          sh.commits.only c
          (ap (λ o. is_some (option_map (object_in (region_generation Z.heap (region_of c))) o)) at)

  -- as many objects are there after it as are kept
  few_objects : len Z.heap.objects ≤ len A.heap.objects
  few_objects =
      let (k, of_k) =
      counts_where (λ x. is_object (object_at A.heap) x ≡ true) (kept_in plan) (len A.heap.objects)
      (counts_objects A.heap)
      in
      let arrived : Counts (λ x. is_object (object_at Z.heap) x ≡ true) k =
      counts_named Place (λ x. (is_object (object_at A.heap) x ≡ true) × (kept_in plan x ≡ true))
      (λ x. is_object (object_at Z.heap) x ≡ true) k (λ x y a b e. sf.keeping.apart x y a.1 b.1 e)
      (λ x w. is_object_read Place Left T moved x (in_left x w.1))
      (λ b e. let (x, both) = sh.commits.only b e in
      (x, ((sf.keeping.objects x both.0, both.0), both.1))) of_k in
      let same : k ≡ len Z.heap.objects =
      counts_once (λ x. is_object (object_at Z.heap) x ≡ true) k (len Z.heap.objects) arrived
      (counts_objects Z.heap) in
      let less : k ≤ len A.heap.objects =
      counts_le (λ x. (is_object (object_at A.heap) x ≡ true) × (kept_in plan x ≡ true))
      (λ x. is_object (object_at A.heap) x ≡ true) k (len A.heap.objects) (λ x w. w.0) of_k
      (counts_objects A.heap) in
      omega arith

  table_after : IsSameTable A.table Z.table
  table_after = same_table_on A.table t2 Z.table sf.table sh.table

  room_after : Z.queue.room ≡ A.queue.room
  room_after = ap (λ (p : Queue). p.room) sh.queue ∙ ap (λ (p : Queue). p.room) sf.queue

  pub ready_after : IsReady Z
  ready_after = record {
    whole = whole_after;
    identities = identities_after;
    ages_sound =
        subst (λ a. HasSoundAges (object_at Z.heap) (row_at Z.table) a) (sym sh.aged)
        (moved_ages ready.whole (goes_by ready sf rp) moved A.ages ready.ages_sound);
    cards_sound = λ x y field younger. (sh.commits.cards (Rattle.hd_model.specs.Heap.card_of x)).1
        (record { from = x; to = y; in_card = refl; field = field; younger = younger });
    full = sh.commits.full (same_full unregisters ready.full);
    clumps =
        ap length sh.aged ∙ length-map A.ages (raised n) ∙ ready.clumps
        ∙ ap (λ b. 4 * b) (sym table_after.blocks);
    room = omega (arith, few_objects, room_after, ready.room);
  }

  pinned_kept : (x : Addr) → IsPinned (row_at A.table) x → kept_in plan x ≡ true
  pinned_kept x p =
      sf.plan_kept x ∙ (sf.sets.kept_is x).1
      (reached_kept n S x (root_reached n S x (held (pinned_held (row_at A.table) x p))))

  stays : (x : Addr) → kept_in plan x ≡ true → Place x ≡ x
      → (has_object Z.heap x ≡ true) × (id_at Z.heap x ≡ id_at A.heap x)
  stays x kept here = (
    subst (λ (y : Addr). has_object Z.heap y ≡ true) here
        (is_object_read Place Left T moved x (in_left x kept)),
    subst (λ (y : Addr). id_at Z.heap y ≡ id_at A.heap x) here (same_id x kept),
  )

  -- a handle that pins still pins the same object
  still_pinned : (x : Addr) → IsPinned (row_at A.table) x → IsPinned (row_at Z.table) x
  still_pinned x p =
      let holding : role p.handle ≡ holds = pins_hold p.handle.kind p.handle.extra p.pins in
      let target : loses sf.sets.reach sf.sets.kept p.handle ≡ false =
      ap (λ r. loses_by r sf.sets.reach sf.sets.kept p.handle.target) holding in
      let extra : (is_attaching (role p.handle) && is_lost sf.sets.kept p.handle.target) ≡ false =
      ap (λ r. is_attaching r && is_lost sf.sets.kept p.handle.target) holding in
      let same : cleared sf.sets.reach sf.sets.kept p.handle ≡ p.handle =
      cleared_same sf.sets.reach sf.sets.kept p.handle target extra in
      record {
        slot = p.slot;
        handle = rename_handle Place p.handle;
        is_stored =
            moved.handles p.slot
            ∙ ap (λ o. option_map (rename_handle Place) (option_map (cleared sf.sets.reach sf.sets.kept) o))
            p.is_stored ∙ ap (λ g. Some (rename_handle Place g)) same;
        pins = pins_renamed Place p.handle ∙ p.pins;
        target = ap (option_map Place) p.target ∙ ap (λ y. Some y) (sf.pinned x p);
      }

  packed_after : LeavesPacked A.heap Z.heap A.table n
  packed_after = record {
    pinned = stays_in plan;
    pinned_is = sf.stays;
    regions = subst (λ k. IsPacked A.heap Z.heap k (stays_in plan)) generation_is
        (packed_like
        (subst (λ (g : Heap). IsPacked g Z.heap plan.basis.condemned (stays_in plan)) unregisters.same
        sh.commits.packed));
  }
    where
      packed_like : {k stays : ℕ} → IsPacked (record A.heap { objects = sh.middle.objects }) Z.heap k stays
          → IsPacked A.heap Z.heap k stays
      packed_like p = record {
        older = p.older;
        regions = p.regions;
        regions_are = p.regions_are;
        cells = p.cells;
        cells_are = p.cells_are;
        few = p.few;
      }

  compact_after : n ≡ 2 → IsCompact Z.heap (row_at Z.table)
  compact_after two =
      let (a, before) =
      pinned_count A.heap A.table (λ x p. ready.whole.targets p.slot p.handle x p.is_stored p.target) in
      let (b, after) =
      pinned_count Z.heap Z.table (λ x p. whole_after.targets p.slot p.handle x p.is_stored p.target) in
      let few : stays_in plan ≤ a =
      counts_le (λ x. IsCondemned (object_at A.heap) n x × IsPinned (row_at A.table) x)
      (IsPinned (row_at A.table)) (stays_in plan) a (λ x w. w.1) sf.stays before in
      let more : a ≤ b =
      counts_le (IsPinned (row_at A.table)) (IsPinned (row_at Z.table)) a b still_pinned before after
      in
      let regions : len Z.heap.regions ≤ used_of Z.heap / LEFT + OPEN + stays_in plan =
      sh.commits.compact (generation_is ∙ two) in
      record { pinned = b; pinned_is = after; regions = omega arith }

  moving_steps : s2 ≡ s1 + visits_over A.table A.ages n all_kinds
  moving_steps = sh.steps ∙ ap (λ v. s1 + v) (visits_alike A.table t2 A.ages n all_kinds sf.table)

  steps_after : (s0 : ℕ) → s1 ≡ marked_steps A.table A.ages n s0 → s2 ≡ collected_steps A.table A.ages n s0
  steps_after s0 marked = omega (arith, marked, moving_steps)

  pub collected : (s0 : ℕ) → s1 ≡ marked_steps A.table A.ages n s0 → Collected A Z n report s0 s2
  collected s0 marked = record {
    collects = collects;
    ready = ready_after;
    pinned = λ x p. stays x (pinned_kept x p) (sf.pinned x p);
    older = λ x old. stays x (sf.keeping.older x old) (sf.keeping.in_place x old);
    aged = sh.aged;
    cards = sh.commits.cards;
    used = le_trans sh.commits.used (same_used unregisters);
    limit = sh.commits.limit ∙ ap (λ (g : Heap). g.limit) unregisters.same;
    table = table_after;
    room = room_after;
    steps = steps_after s0 marked;
    packed = packed_after;
    compact = compact_after;
  }
