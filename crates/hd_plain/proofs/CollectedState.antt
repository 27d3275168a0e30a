-- What the passes of a collection leave is the state after it, and what they count is its report.
use Rattle.hd_model.proofs.Basics.{AllPairs, Bool, CollectsState, Contains, Counts, Decides, Decision, Handle, IsKept, IsReached, IsRemoved, IsReport, IsSome, IsSurviving, IsToBeFinalized, IsWellFormed, List, LosesAs, None, Numbers, Object, Option, Role, Some, State, WeakEntry, and_from, and_parts, ap, attaches, cleared, cond, false, false≢true, filter, generation_in, get, inl, inr, is_attaching, is_lost, is_pinned, is_some, joined, Leads, cases_lt, older, le-leb, leb-true, length, long, loses, loses_by, map, nat_le, none-some, not, not_from_false, option_map, refl, role, same_Some, scene_of, short, subst, survivor, swept, sym, true, true≢false, weak_handle, ℕ, ⊎_elim, cases_Bool, ◌&&◌, ◌++◌, ◌+◌, ◌<◌, ◌∙◌, ◌≡◌, ◌≢◌, ◌≤◌, ◌⊎◌}
use Rattle.std.specs.Option.{option_map_or}
use Rattle.hd_model.specs.declared.data.Id.{Id}
use Rattle.hd_model.specs.declared.data.Report.{Report}
use Rattle.hd_model.proofs.Members.{mapped_in, mapped_from, pairs_mapped, pairs_passing}
use Rattle.hd_plain.proofs.YoungObjects.{ListsYoung, rising_apart}
use Rattle.hd_model.proofs.PropertyCounts.{counts_like, counts_join, counts_named}
use Rattle.hd_model.proofs.SceneCollection.{resurrected_kept}
use Rattle.hd_model.proofs.WeakSlots.{handle_row, weak_row, row_cases, rows_cleared, weak_attaches}
use Rattle.hd_plain.specs.Collecting.{id_of}
use Rattle.hd_plain.specs.Inside.{is_woken, wakes}
use Rattle.hd_maps.proofs.ListBuilds.{IsLive, Lists, lists_passing}
use Rattle.hd_plain.proofs.CollectionPasses.{is_removed, is_role, is_stale, lost_as, revives, role_from, role_same, settled_object, survives}

counts_passing : (test : ℕ → Bool) (xs : List ℕ) → AllPairs (λ x y. x ≢ y) xs
    → ((k : ℕ) → test k ≡ true → Contains xs k) → Counts (λ k. test k ≡ true) (length (filter test xs))
counts_passing test xs apart all =
    let l = lists_passing test xs apart all in
    record { members = filter test xs; apart = l.apart; each = l.each; all = l.all; number = refl }

not_true : (b : Bool) → not b ≡ true → b ≡ false
not_true true h = absurd (false≢true h)
not_true false h = refl

-- what is resurrected is to be finalized
pub woken_is : (n : ℕ) (s : State) (reach : Id → Bool) → ((x : Id) → Decides (reach x)
    (IsReached (scene_of s) n x)) → (x : Id)
    → Decides (is_woken n reach s.objects x.0) (IsToBeFinalized (scene_of s) n x)
woken_is n s reach reach_is x = by (get s.objects x.0) refl
  where
    by : (o : Option (Object Id)) → get s.objects x.0 ≡ o
        → Decides (option_map_or (wakes n (reach x)) o false) (IsToBeFinalized (scene_of s) n x)
    by None e = (
      λ h. absurd (false≢true h),
      λ v. absurd (false≢true (sym (ap is_some e) ∙ ap is_some v.is_stored)),
    )
    by (Some o) e = (
      λ h. let parts = and_parts o.registered (nat_le o.generation n && not (reach x)) h in
          let rest = and_parts (nat_le o.generation n) (not (reach x)) parts.1 in
          record {
            object = o;
            is_stored = e;
            registered = parts.0;
            young = leb-true o.generation n rest.0;
            lost = λ r. true≢false (sym ((reach_is x).1 r) ∙ not_true (reach x) rest.1);
          },
      λ (v : IsToBeFinalized (scene_of s) n x).
          let same : v.object ≡ o = same_Some v.object o (sym v.is_stored ∙ e) in
          and_from o.registered (nat_le o.generation n && not (reach x))
          (ap (λ (q : Object Id). q.registered) (sym same) ∙ v.registered)
          (and_from (nat_le o.generation n) (not (reach x))
          (le-leb o.generation n (subst (λ (q : Object Id). q.generation ≤ n) same v.young))
          (⊎_elim (λ yes. absurd (v.lost ((reach_is x).0 yes))) (λ no. not_from_false (reach x) no)
          (cases_Bool (reach x)))),
    )

-- what a collection leaves, with what joins the queue
pub record IsLeft (n : ℕ) (reach kept : Id → Bool) (joins : List ℕ) (s t : State) : Type 0 where
  pub objects : (k : ℕ) → get t.objects k ≡ settled_object reach kept n k (get s.objects k)
  pub handles : (slot : ℕ) → get t.handles slot ≡ option_map (cleared reach kept) (get s.handles slot)
  pub weak : (slot : ℕ) → get t.weak slot ≡ option_map (swept kept) (get s.weak slot)
  pub pinned : (k : ℕ) → get t.pinned k ≡ cond (is_pinned s.handles k) (get s.pinned k) None
  pub rest : t ≡ record s {
    objects = t.objects;
    handles = t.handles;
    weak = t.weak;
    pinned = t.pinned;
    queue = s.queue ++ map id_of joins;
  }

module _ (n : ℕ) (reach kept : Id → Bool) (s : State)
    (reach_is : (x : Id) → Decides (reach x) (IsReached (scene_of s) n x))
    (kept_is : (x : Id) → Decides (kept x) (IsKept (scene_of s) n x)) where
  -- what is resurrected
  abbrev pub woken : Id → Bool
  woken x = is_woken n reach s.objects x.0

  abbrev pub decided : List ℕ → Decision Id
  decided joins = record { reach = reach; resurrected = woken; kept = kept; joins = map id_of joins }

  object_left : (k : ℕ) (o : Option (Object Id)) → get s.objects k ≡ o
      → settled_object reach kept n k o
      ≡ cond (kept (id_of k)) (option_map (survivor n (woken (id_of k))) o) None
  object_left k None e = refl
  object_left k (Some o) e =
      ap (λ b. cond (kept (id_of k)) (Some (survivor n b o)) None)
      (ap (λ q. option_map_or (wakes n (reach (id_of k))) q false) (sym e))

  -- what was left and reported is a collection
  pub collected : (joins : List ℕ) → Lists (λ k. woken (id_of k) ≡ true) joins
      → AllPairs (λ x y. x < y) joins → (r : Report) → IsReport n (scene_of s) (decided joins) r
      → (t : State) → IsLeft n reach kept joins s t → CollectsState n s t r
  collected joins all rising r reported t left = record {
    scene = record {
      decision = decided joins;
      goes_by = record {
        reach_is = reach_is;
        resurrected_is = woken_is n s reach reach_is;
        kept_is = kept_is;
        joins_are = λ x. (
          λ h. mapped_in id_of joins x.0 (all.all x.0 h),
          λ h. let (k, at) = mapped_from id_of joins x h in
              subst (λ y. woken y ≡ true) at.1 (all.each k at.0),
        );
        rising = pairs_mapped (λ a b. a < b) (λ (x y : Id). x.0 < y.0) id_of joins (λ x y h. h) rising;
        report_is = reported;
      };
      objects = λ x. left.objects x.0 ∙ object_left x.0 (get s.objects x.0) refl;
      handles = rows_cleared s t reach kept left.handles left.weak;
      named = λ i. joined (left.rest i).registers ++ (left.rest i).statics;
      queue = ap (λ (q : State). q.queue) left.rest;
    };
    handles = left.handles;
    weak = left.weak;
    pinned = left.pinned;
    registers = ap (λ (q : State). q.registers) left.rest;
    statics = ap (λ (q : State). q.statics) left.rest;
    handle_registers = ap (λ (q : State). q.handle_registers) left.rest;
    board = ap (λ (q : State). q.board) left.rest;
    blocks = ap (λ (q : State). q.blocks) left.rest;
    serials = ap (λ (q : State). q.serials) left.rest;
  }

  -- ---- the report

  module _ (m : Numbers) (w : IsWellFormed m s) (ids slots weak_slots : List ℕ)
      (young_are : ListsYoung n s.objects ids)
      (live : Lists (IsLive s.handles) slots) (held : Lists (λ k. IsSome (get s.weak k)) weak_slots) where
    apart_ids : AllPairs (λ x y. x ≢ y) ids
    apart_ids = rising_apart _ young_are.rising

    -- objects of generations above n are kept
    pub old_kept : (k : ℕ) (o : Object Id) → get s.objects k ≡ Some o → n < o.generation
        → kept (id_of k) ≡ true
    old_kept k o e above =
        (kept_is (id_of k)).1 (
          id_of k,
          (
            inl (id_of k, (older (subst (λ q. n < generation_in q) (sym e) above), Leads.here)),
            Leads.here,
          ),
        )

    -- what is not kept is not among them
    not_old : (k : ℕ) (o : Object Id) → get s.objects k ≡ Some o → not (kept (id_of k)) ≡ true
        → o.generation ≤ n
    not_old k o e h =
        ⊎_elim (λ above. absurd (true≢false (sym (old_kept k o e above) ∙ not_true (kept (id_of k)) h)))
        (λ low. low) (cases_lt n o.generation)

    woken_low : (reached : Bool) (o : Object Id) → wakes n reached o ≡ true → o.generation ≤ n
    woken_low reached o h =
        let rest = and_parts o.registered (nat_le o.generation n && not reached) h in
        leb-true o.generation n (and_parts (nat_le o.generation n) (not reached) rest.1).0

    abbrev pub joining : List ℕ
    joining = filter (λ k. revives reach kept n k (get s.objects k)) ids

    -- what is resurrected is kept
    woken_kept : (k : ℕ) → woken (id_of k) ≡ true → kept (id_of k) ≡ true
    woken_kept k h =
        (kept_is (id_of k)).1
        (resurrected_kept n (scene_of s) (id_of k) ((woken_is n s reach reach_is (id_of k)).0 h))

    revived_woken : (k : ℕ) (o : Option (Object Id)) → revives reach kept n k o ≡ true
        → option_map_or (wakes n (reach (id_of k))) o false ≡ true
    revived_woken k None h = h
    revived_woken k (Some o) h = (and_parts (kept (id_of k)) (wakes n (reach (id_of k)) o) h).1

    woken_revived : (k : ℕ) (o : Option (Object Id)) → kept (id_of k) ≡ true
        → option_map_or (wakes n (reach (id_of k))) o false ≡ true → revives reach kept n k o ≡ true
    woken_revived k None stays h = h
    woken_revived k (Some o) stays h = and_from (kept (id_of k)) (wakes n (reach (id_of k)) o) stays h

    -- a test that only objects of no generation above n pass
    abbrev TestsYoung : (ℕ → Object Id → Bool) → Type 0
    TestsYoung test = (k : ℕ) (o : Object Id) → get s.objects k ≡ Some o → test k o ≡ true → o.generation ≤ n

    of_object : (test : ℕ → Object Id → Bool) → TestsYoung test → (k : ℕ) (o : Option (Object Id))
        → get s.objects k ≡ o → option_map_or (test k) o false ≡ true → Contains ids k
    of_object test low k None e h = absurd (false≢true h)
    of_object test low k (Some o) e h = young_are.all k o e (low k o e h)

    counts_objects : (test : ℕ → Object Id → Bool) → TestsYoung test
        → Counts (λ k. option_map_or (test k) (get s.objects k) false ≡ true)
        (length (filter (λ k. option_map_or (test k) (get s.objects k) false) ids))
    counts_objects test low =
        counts_passing (λ k. option_map_or (test k) (get s.objects k) false) ids apart_ids
        (λ k h. of_object test low k (get s.objects k) refl h)

    pub joins_listed : Lists (λ k. woken (id_of k) ≡ true) joining
    joins_listed =
        let l = lists_passing (λ k. revives reach kept n k (get s.objects k)) ids apart_ids
        (λ k h. of_object (λ j x. kept (id_of j) && wakes n (reach (id_of j)) x)
        (λ j x e t. woken_low (reach (id_of j)) x
        (and_parts (kept (id_of j)) (wakes n (reach (id_of j)) x) t).1) k (get s.objects k) refl h) in
        record {
          apart = l.apart;
          each = λ k h. revived_woken k (get s.objects k) (l.each k h);
          all = λ k h. l.all k (woken_revived k (get s.objects k) (woken_kept k h) h);
        }

    pub joins_rise : AllPairs (λ x y. x < y) joining
    joins_rise =
        pairs_passing (λ k. revives reach kept n k (get s.objects k)) (λ x y. x < y) ids young_are.rising

    objects_named : (P : ℕ → Type 0) (Q : Id → Type 0) (c : ℕ) → Counts P c → ((k : ℕ) → P k → Q (id_of k))
        → ((x : Id) → Q x → P x.0) → Counts Q c
    objects_named P Q c counts to back =
        counts_named id_of P Q c (λ x y p q e. ap (λ (z : Id). z.0) e) to (λ x q. (x.0, (back x q, refl)))
        counts

    surviving : (k : ℕ) (o : Option (Object Id)) → get s.objects k ≡ o → survives reach kept n k o ≡ true
        → IsSurviving n (scene_of s) kept (id_of k)
    surviving k None e h = absurd (false≢true h)
    surviving k (Some o) e h =
        let both = and_parts (kept (id_of k)) (nat_le o.generation n) h in
        record {
          condemned = record {
            object = ap is_some e;
            young = subst (λ q. generation_in q ≤ n) (sym e) (leb-true o.generation n both.1);
          };
          stays = both.0;
        }

    is_surviving : (x : Id) (o : Option (Object Id)) → get s.objects x.0 ≡ o
        → IsSurviving n (scene_of s) kept x → survives reach kept n x.0 o ≡ true
    is_surviving x None e h = absurd (false≢true (sym (ap is_some e) ∙ h.condemned.object))
    is_surviving x (Some o) e h =
        and_from (kept x) (nat_le o.generation n) h.stays
        (le-leb o.generation n (subst (λ q. generation_in q ≤ n) e h.condemned.young))

    removed : (k : ℕ) (o : Option (Object Id)) → get s.objects k ≡ o → is_removed reach kept n k o ≡ true
        → IsRemoved (scene_of s) kept (id_of k)
    removed k None e h = absurd (false≢true h)
    removed k (Some o) e h = record { object = ap is_some e; lost = not_true (kept (id_of k)) h }

    is_gone : (x : Id) (o : Option (Object Id)) → get s.objects x.0 ≡ o → IsRemoved (scene_of s) kept x
        → is_removed reach kept n x.0 o ≡ true
    is_gone x None e h = absurd (false≢true (sym (ap is_some e) ∙ h.object))
    is_gone x (Some o) e h = not_from_false (kept x) h.lost

    -- a handle of a role that loses its target is a row that does
    row_loses : (wanted : Role) (slot : ℕ) (o : Option (Handle Id)) → get s.handles slot ≡ o
        → lost_as reach kept wanted o ≡ true → LosesAs (scene_of s) reach kept wanted slot
    row_loses wanted slot None e h = absurd (false≢true h)
    row_loses wanted slot (Some g) e h =
        let both = and_parts (loses reach kept g) (is_role (role g) wanted) h in
        record {
          handle = g;
          is_stored = handle_row s slot g e;
          role_is = role_from (role g) wanted both.1;
          loses = both.0;
        }

    handle_loses : (wanted : Role) (slot : ℕ) (l : LosesAs (scene_of s) reach kept wanted slot)
        → get s.handles slot ≡ Some l.handle → lost_as reach kept wanted (get s.handles slot) ≡ true
    handle_loses wanted slot l e =
        ap (lost_as reach kept wanted) e
        ∙ and_from (loses reach kept l.handle) (is_role (role l.handle) wanted) l.loses
        (ap (λ r. is_role r wanted) l.role_is ∙ role_same wanted)

    of_handle : (wanted : Role) (slot : ℕ) (o : Option (Handle Id)) → get s.handles slot ≡ o
        → lost_as reach kept wanted o ≡ true → Contains slots slot
    of_handle wanted slot None e h = absurd (false≢true h)
    of_handle wanted slot (Some g) e h = live.all slot (ap is_some e)

    abbrev pub losing : Role → List ℕ
    losing wanted = filter (λ slot. lost_as reach kept wanted (get s.handles slot)) slots

    counts_handles : (wanted : Role) → Counts (λ slot. lost_as reach kept wanted (get s.handles slot) ≡ true)
        (length (losing wanted))
    counts_handles wanted =
        counts_passing (λ slot. lost_as reach kept wanted (get s.handles slot)) slots live.apart
        (λ slot h. of_handle wanted slot (get s.handles slot) refl h)

    counts_lost : (wanted : Role) → (wanted ≡ attaches → ⊥)
        → Counts (LosesAs (scene_of s) reach kept wanted) (length (losing wanted))
    counts_lost wanted not_weak =
        counts_like (λ slot. lost_as reach kept wanted (get s.handles slot) ≡ true)
        (LosesAs (scene_of s) reach kept wanted) (length (losing wanted))
        (λ slot h. row_loses wanted slot (get s.handles slot) refl h)
        (λ slot h. ⊎_elim (λ stored. handle_loses wanted slot h stored)
        (λ weak. absurd (not_weak (sym h.role_is ∙ ap role (sym weak.1.1.1) ∙ weak_attaches weak.1.0)))
        (row_cases s slot h.handle h.is_stored)) (counts_handles wanted)

    stale_row : (slot : ℕ) (o : Option (Option (WeakEntry Id))) → get s.weak slot ≡ o
        → is_stale reach kept o ≡ true → LosesAs (scene_of s) reach kept attaches slot
    stale_row slot None e h = absurd (false≢true h)
    stale_row slot (Some None) e h = absurd (false≢true h)
    stale_row slot (Some (Some x)) e h = record {
      handle = weak_handle (Some x);
      is_stored = weak_row s slot (Some x) (w.weak.apart slot (ap is_some e)) e;
      role_is = refl;
      loses = h;
    }

    stale_entry : (slot : ℕ) (g : Handle Id) (c : Option (WeakEntry Id)) → get s.weak slot ≡ Some c
        → weak_handle c ≡ g → is_lost kept g.target ≡ true
        → is_stale reach kept (get s.weak slot) ≡ true
    stale_entry slot g None e same h =
        absurd (false≢true (ap (λ (q : Handle Id). is_lost kept q.target) same ∙ h))
    stale_entry slot g (Some x) e same h =
        ap (is_stale reach kept) e ∙ ap (λ (q : Handle Id). is_lost kept q.target) same ∙ h

    live_and_stale : (slot : ℕ) (o : Option (Handle Id)) (u : Option (Option (WeakEntry Id)))
        → get s.handles slot ≡ o → get s.weak slot ≡ u
        → lost_as reach kept attaches o ≡ true → is_stale reach kept u ≡ true → ⊥
    live_and_stale slot None u e k h g = false≢true h
    live_and_stale slot (Some x) None e k h g = false≢true g
    live_and_stale slot (Some x) (Some c) e k h g =
        none-some x (sym (w.weak.apart slot (ap is_some k)) ∙ e)

    of_entry : (slot : ℕ) (o : Option (Option (WeakEntry Id))) → get s.weak slot ≡ o
        → is_stale reach kept o ≡ true → Contains weak_slots slot
    of_entry slot None e h = absurd (false≢true h)
    of_entry slot (Some c) e h = held.all slot (ap is_some e)

    abbrev pub stale : List ℕ
    stale = filter (λ slot. is_stale reach kept (get s.weak slot)) weak_slots

    counts_deps : Counts (LosesAs (scene_of s) reach kept attaches)
        (length (losing attaches) + length stale)
    counts_deps =
        counts_like
        (λ slot. (lost_as reach kept attaches (get s.handles slot) ≡ true) ⊎
        (is_stale reach kept (get s.weak slot) ≡ true))
        (LosesAs (scene_of s) reach kept attaches) (length (losing attaches) + length stale)
        (λ slot. ⊎_elim (λ h. row_loses attaches slot (get s.handles slot) refl h)
        (λ h. stale_row slot (get s.weak slot) refl h))
        (λ slot h. ⊎_elim (λ stored. inl (handle_loses attaches slot h stored))
        (λ weak. inr (stale_entry slot h.handle weak.1.0 weak.1.1.0 weak.1.1.1
        (ap (λ r. loses_by r reach kept h.handle.target) (sym h.role_is) ∙ h.loses)))
        (row_cases s slot h.handle h.is_stored))
        (counts_join (λ slot. lost_as reach kept attaches (get s.handles slot) ≡ true)
        (λ slot. is_stale reach kept (get s.weak slot) ≡ true) (length (losing attaches)) (length stale)
        (λ slot a b. live_and_stale slot (get s.handles slot) (get s.weak slot) refl refl a b)
        (counts_handles attaches)
        (counts_passing (λ slot. is_stale reach kept (get s.weak slot)) weak_slots held.apart
        (λ slot h. of_entry slot (get s.weak slot) refl h)))

    pub reported : IsReport n (scene_of s) (decided joining) (record {
      kept = length (filter (λ k. survives reach kept n k (get s.objects k)) ids);
      removed = length (filter (λ k. is_removed reach kept n k (get s.objects k)) ids);
      short = length (losing short);
      long = length (losing long);
      dep = length (losing attaches) + length stale;
      revived = length joining;
    })
    reported = record {
      kept = objects_named _ (IsSurviving n (scene_of s) kept) _
          (counts_objects (λ k x. kept (id_of k) && nat_le x.generation n)
          (λ k x e t. leb-true x.generation n (and_parts (kept (id_of k)) (nat_le x.generation n) t).1))
          (λ k h. surviving k (get s.objects k) refl h) (λ x h. is_surviving x (get s.objects x.0) refl h);
      removed = objects_named _ (IsRemoved (scene_of s) kept) _
          (counts_objects (λ k x. not (kept (id_of k))) (λ k x e t. not_old k x e t))
          (λ k h. removed k (get s.objects k) refl h) (λ x h. is_gone x (get s.objects x.0) refl h);
      short = counts_lost short (λ e. false≢true (ap is_attaching e));
      long = counts_lost long (λ e. false≢true (ap is_attaching e));
      dep = counts_deps;
      resurrected = objects_named _ (λ x. woken x ≡ true) _
          (record {
            members = joining;
            apart = joins_listed.apart;
            each = joins_listed.each;
            all = joins_listed.all;
            number = refl;
          }) (λ k h. h) (λ x h. h);
    }
