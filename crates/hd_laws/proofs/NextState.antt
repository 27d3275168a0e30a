-- The state and the report that a collection leaves.
use Rattle.hd_model.specs.{declared.data.Id.Id, declared.data.Report.Report}
use Rattle.hd_model.proofs.Basics.{AllPairs, Bool, CollectsState, Counts, Decides, Decision, Handle, IsRemoved, IsReport, IsSome, IsSurviving, IsWhole, LosesAs, None, Object, Option, Role, Some, State, WeakEntry, and_from, and_parts, ap, attaches, cleared, cond, entries, entries_sorted, false, false≢true, filter, generation_at, get, holds, inl, inr, is_attaching, is_pinned, is_some, keys, le-leb, leb-true, len, long, loses, nat_le, not, not_from_false, option_map, refl, role, row_of, scene_of, short, survivor, swept, sym, true, true≢false, ℕ, ⊎_elim, ◌&&◌, ◌++◌, ◌+◌, ◌<◌, ◌∙◌, ◌≡◌}
use Rattle.hd_laws.proofs.Basics.{CollectionsExist}
use Rattle.hd_model.proofs.Members.{passing_from, passing_in, pairs_mapped, pairs_passing}
use Rattle.hd_model.proofs.PropertyCounts.{counts_where, counts_like, counts_join}
use Rattle.hd_model.proofs.MapEntries.{keys_rise, counts_keys, some_value}
use Rattle.hd_model.proofs.WeakSlots.{handle_row, weak_row, row_cases, rows_cleared}
use Rattle.hd_model.proofs.{WholeScenes.whole_scene, Reports.counts_state}
use Rattle.hd_model.proofs.MapBuild.{in_keys, had_value, had_source, built, built_is}
use Rattle.hd_model.proofs.ReachTests.{ids, in_ids, attaching_is, is_reach, is_resurrected, is_kept, reach_is, resurrected_is, kept_is}

not_true : (b : Bool) → not b ≡ true → b ≡ false
not_true true h = absurd (false≢true h)
not_true false h = refl

abbrev is_short : Role → Bool
is_short holds = false
is_short short = true
is_short long = false
is_short attaches = false

short_is : (r : Role) → Decides (is_short r) (r ≡ short)
short_is holds = (λ h. absurd (false≢true h), λ e. ap is_short e)
short_is short = (λ _. refl, λ _. refl)
short_is long = (λ h. absurd (false≢true h), λ e. ap is_short e)
short_is attaches = (λ h. absurd (false≢true h), λ e. ap is_short e)

abbrev is_long : Role → Bool
is_long holds = false
is_long short = false
is_long long = true
is_long attaches = false

long_is : (r : Role) → Decides (is_long r) (r ≡ long)
long_is holds = (λ h. absurd (false≢true h), λ e. ap is_long e)
long_is short = (λ h. absurd (false≢true h), λ e. ap is_long e)
long_is long = (λ _. refl, λ _. refl)
long_is attaches = (λ h. absurd (false≢true h), λ e. ap is_long e)

module _ (n : ℕ) (s : State) (d : Decision Id) where
  -- the numbers of a report
  surviving : (k : ℕ) × Counts (IsSurviving n (scene_of s) d.kept) k
  surviving =
      let some = counts_where (λ (x : Id). IsSome (get s.objects x.0))
      (λ x. nat_le (generation_at (scene_of s).object x) n && d.kept x) (len s.objects) (counts_state s) in (
        some.0,
        counts_like _ (IsSurviving n (scene_of s) d.kept) some.0
            (λ x h. let both = and_parts (nat_le (generation_at (scene_of s).object x) n) (d.kept x) h.1 in
            record {
              condemned = record {
                object = h.0;
                young = leb-true (generation_at (scene_of s).object x) n both.0;
              };
              stays = both.1;
            })
            (λ x h. (
              h.condemned.object,
              and_from (nat_le (generation_at (scene_of s).object x) n) (d.kept x)
                  (le-leb (generation_at (scene_of s).object x) n h.condemned.young) h.stays,
            )) some.1,
      )

  removed : (k : ℕ) × Counts (IsRemoved (scene_of s) d.kept) k
  removed =
      let some = counts_where (λ (x : Id). IsSome (get s.objects x.0)) (λ x. not (d.kept x)) (len s.objects)
      (counts_state s) in (
        some.0,
        counts_like _ (IsRemoved (scene_of s) d.kept) some.0
            (λ x h. record { object = h.0; lost = not_true (d.kept x) h.1 })
            (λ x h. (h.object, not_from_false (d.kept x) h.lost)) some.1,
      )

  resurrected_count : ((x : Id) → d.resurrected x ≡ true → IsSome (get s.objects x.0))
      → (k : ℕ) × Counts (λ x. d.resurrected x ≡ true) k
  resurrected_count object =
      let some =
      counts_where (λ (x : Id). IsSome (get s.objects x.0)) d.resurrected (len s.objects) (counts_state s)
      in (
        some.0,
        counts_like _ (λ x. d.resurrected x ≡ true) some.0 (λ x h. h.1) (λ x h. (object x h, h)) some.1,
      )

  -- the slots that have a row: those with a handle, and those of the weak table without one
  rows : (k : ℕ) × Counts (λ slot. IsSome (row_of s slot)) k
  rows =
      let some = counts_where (λ slot. IsSome (get s.weak slot)) (λ slot. not (is_some (get s.handles slot)))
      (len s.weak) (counts_keys s.weak (λ k. k) (λ k. k) (λ k. refl) (λ k. refl)) in (
        len s.handles + some.0,
        counts_like _ (λ slot. IsSome (row_of s slot)) (len s.handles + some.0)
            (λ slot. ⊎_elim
            (λ h. let (g, is) = some_value (get s.handles slot) h in ap is_some (handle_row s slot g is))
            (λ h. let (c, is) = some_value (get s.weak slot) h.0 in
            ap is_some (weak_row s slot c (none_there (get s.handles slot) h.1) is)))
            (λ slot h. let (g, is) = some_value (row_of s slot) h in
            ⊎_elim (λ live. inl (ap is_some live))
            (λ weak. inr (ap is_some weak.1.1.0, ap (λ o. not (is_some o)) weak.0)) (row_cases s slot g is))
            (counts_join (λ slot. IsSome (get s.handles slot)) _ (len s.handles) some.0
            (λ slot a b. true≢false (sym a ∙ not_true (is_some (get s.handles slot)) b.1))
            (counts_keys s.handles (λ k. k) (λ k. k) (λ k. refl) (λ k. refl)) some.1),
      )
    where
      none_there : (o : Option (Handle Id)) → not (is_some o) ≡ true → o ≡ None
      none_there None h = refl
      none_there (Some g) h = absurd (false≢true h)

  module _ (wanted : Role) (is : Role → Bool) (decides : (r : Role) → Decides (is r) (r ≡ wanted)) where
    losing : Option (Handle Id) → Bool
    losing None = false
    losing (Some h) = is (role h) && loses d.reach d.kept h

    losing_as : (slot : ℕ) → losing (row_of s slot) ≡ true → LosesAs (scene_of s) d.reach d.kept wanted slot
    unfolding losing
    losing_as slot h = at (row_of s slot) refl h
      where
        at : (o : Option (Handle Id)) → row_of s slot ≡ o → losing o ≡ true
            → LosesAs (scene_of s) d.reach d.kept wanted slot
        at None e h = absurd (false≢true h)
        at (Some g) e h =
            let both = and_parts (is (role g)) (loses d.reach d.kept g) h in
            record { handle = g; is_stored = e; role_is = (decides (role g)).0 both.0; loses = both.1 }

    as_losing : (slot : ℕ) → LosesAs (scene_of s) d.reach d.kept wanted slot → losing (row_of s slot) ≡ true
    unfolding losing
    as_losing slot l = ap losing l.is_stored
        ∙ and_from (is (role l.handle)) (loses d.reach d.kept l.handle)
        ((decides (role l.handle)).1 l.role_is) l.loses

    losses : (k : ℕ) × Counts (LosesAs (scene_of s) d.reach d.kept wanted) k
    losses =
        let some = counts_where (λ slot. IsSome (row_of s slot))
        (λ slot. losing (row_of s slot)) rows.0 rows.1 in (
          some.0,
          counts_like _ (LosesAs (scene_of s) d.reach d.kept wanted) some.0 (λ slot h. losing_as slot h.1)
              (λ slot l. (ap is_some l.is_stored, as_losing slot l)) some.1,
        )

  has_report : ((x : Id) → d.resurrected x ≡ true → IsSome (get s.objects x.0))
      → (r : Report) × IsReport n (scene_of s) d r
  has_report object = (
    record {
      kept = surviving.0;
      removed = removed.0;
      short = (losses short is_short short_is).0;
      long = (losses long is_long long_is).0;
      dep = (losses attaches is_attaching attaching_is).0;
      revived = (resurrected_count object).0;
    },
    record {
      kept = surviving.1;
      removed = removed.1;
      short = (losses short is_short short_is).1;
      long = (losses long is_long long_is).1;
      dep = (losses attaches is_attaching attaching_is).1;
      resurrected = (resurrected_count object).1;
    },
  )

  -- the objects, handles and pinned addresses that stay
  object_left : ℕ → Option (Object Id)
  object_left k =
      let x : Id = record { 0 = k } in
      cond (d.kept x) (option_map (survivor n (d.resurrected x)) (get s.objects k)) None

  handle_left : ℕ → Option (Handle Id)
  handle_left slot = option_map (cleared d.reach d.kept) (get s.handles slot)

  weak_left : ℕ → Option (Option (WeakEntry Id))
  weak_left slot = option_map (swept d.kept) (get s.weak slot)

  address_left : ℕ → Option ℕ
  address_left k = cond (is_pinned s.handles k) (get s.pinned k) None

  after : State
  after = record s {
    objects = built object_left (keys s.objects);
    handles = built handle_left (keys s.handles);
    weak = built weak_left (keys s.weak);
    queue = s.queue ++ d.joins;
    pinned = built address_left (keys s.pinned);
  }

  objects_after : (k : ℕ) → get (built object_left (keys s.objects)) k ≡ object_left k
  unfolding object_left
  objects_after = built_is object_left (keys s.objects)
      (λ k h. in_keys s.objects k
      (had_source (survivor n (d.resurrected (record { 0 = k }))) (get s.objects k)
      (had_value (d.kept (record { 0 = k }))
      (option_map (survivor n (d.resurrected (record { 0 = k }))) (get s.objects k)) h)))

  handles_after : (slot : ℕ) → get (built handle_left (keys s.handles)) slot ≡ handle_left slot
  unfolding handle_left
  handles_after = built_is handle_left (keys s.handles)
      (λ k h. in_keys s.handles k (had_source (cleared d.reach d.kept) (get s.handles k) h))

  weak_after : (slot : ℕ) → get (built weak_left (keys s.weak)) slot ≡ weak_left slot
  unfolding weak_left
  weak_after = built_is weak_left (keys s.weak)
      (λ k h. in_keys s.weak k (had_source (swept d.kept) (get s.weak k) h))

  pinned_after : (k : ℕ) → get (built address_left (keys s.pinned)) k ≡ address_left k
  unfolding address_left
  pinned_after = built_is address_left (keys s.pinned)
      (λ k h. in_keys s.pinned k (had_value (is_pinned s.handles k) (get s.pinned k) h))

  joins_rise : AllPairs (λ (x y : Id). x.0 < y.0) (filter d.resurrected (ids s))
  joins_rise =
      pairs_passing d.resurrected (λ (x y : Id). x.0 < y.0) (ids s)
      (pairs_mapped (λ a b. a < b) (λ (x y : Id). x.0 < y.0) (λ (k : ℕ). record { 0 = k }) (keys s.objects)
      (λ a b h. h) (keys_rise (entries s.objects) (entries_sorted s.objects)))

module _ (n : ℕ) (s : State) (w : IsWhole (scene_of s)) where
  abbrev D : Decision Id
  D = record {
    reach = is_reach s n;
    resurrected = is_resurrected s n;
    kept = is_kept s n;
    joins = filter (is_resurrected s n) (ids s);
  }

  resurrected_object : (x : Id) → is_resurrected s n x ≡ true → IsSome (get s.objects x.0)
  resurrected_object x h = ap is_some ((resurrected_is s n w x).0 h).is_stored

  reported : (r : Report) × IsReport n (scene_of s) D r
  reported = has_report n s D resurrected_object

  next : State
  next = after n s D

  next_handles : (slot : ℕ) → get next.handles slot
      ≡ option_map (cleared (is_reach s n) (is_kept s n)) (get s.handles slot)
  unfolding next after handle_left
  next_handles slot = handles_after n s D slot

  next_weak : (slot : ℕ) → get next.weak slot ≡ option_map (swept (is_kept s n)) (get s.weak slot)
  unfolding next after weak_left
  next_weak slot = weak_after n s D slot

  next_collects : CollectsState n s next reported.0
  unfolding next after object_left handle_left weak_left address_left
  next_collects = record {
    scene = record {
      decision = D;
      goes_by = record {
        reach_is = reach_is s n w;
        resurrected_is = resurrected_is s n w;
        kept_is = kept_is s n w;
        joins_are = λ x. (
          λ h. passing_in (is_resurrected s n) (ids s) x (in_ids s x (resurrected_object x h)) h,
          λ h. (passing_from (is_resurrected s n) (ids s) x h).1,
        );
        rising = joins_rise n s D;
        report_is = reported.1;
      };
      objects = λ x. objects_after n s D x.0;
      handles = rows_cleared s next (is_reach s n) (is_kept s n) next_handles next_weak;
      named = refl;
      queue = refl;
    };
    handles = next_handles;
    weak = next_weak;
    pinned = pinned_after n s D;
    registers = refl;
    statics = refl;
    handle_registers = refl;
    board = refl;
    blocks = refl;
    serials = refl;
  }

pub collections_exist : CollectionsExist
collections_exist m n s w =
    let whole = whole_scene m s w in
    record { after = next n s whole; report = (reported n s whole).0; collects = next_collects n s whole }
