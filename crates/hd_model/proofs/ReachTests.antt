-- Tests for what a collection of a state reaches, resurrects and keeps.
use Rattle.hd_model.proofs.Basics.{Bool, Contains, Contains-append_left, Contains-append_right, Decides, Decides-and, Decides-like, Decides-or, Handle, Id, IsAttached, IsHeld, IsKept, IsReached, IsRoot, IsSome, IsToBeFinalized, IsWhole, Leads, List, None, Object, Option, Role, Some, State, ap, attaches, cases_Bool, eq-eqb, eqb-true, false, false≢true, fields_in, generation_at, get, held, holds, inl, inr, is_attaching, is_object, is_some, is_target, keys, le-leb, leb-true, list_any, long, lt-ltb, ltb-true, map, named, nat_le, nat_lt, none-some, not, not_from_false, older, option_map_or, queued, refl, role, row_of, same_Some, scene_of, secondary_of, short, subst, sym, true, true≢false, ℕ, ⊎_elim, ◌&&◌, ◌++◌, ◌<◌, ◌==◌, ◌||◌, ◌∙◌, ◌≡◌, ◌≤◌, ◌⊎◌}
use Rattle.hd_model.proofs.{Members.mapped_in, MapEntries.some_value, MapEntries.entry_of, MapBuild.in_keys, WeakSlots.row_cases, PinTest.target_is, PinTest.is_the_target, UseChains.Edge}
use Rattle.hd_model.specs.Anchors.{IsAnchor, in_static, in_queue, by_handle}
use Rattle.hd_model.proofs.AnchorChains.{anchor_root, root_anchor}
use Rattle.hd_model.proofs.SceneCollection.{root_object, edge_object, reached_object}
use Rattle.hd_model.proofs.Reachability.{decides_any, through, decides_led}

-- tests of roles
abbrev pub is_holding : Role → Bool
is_holding holds = true
is_holding short = false
is_holding long = false
is_holding attaches = false

holding_is : (r : Role) → Decides (is_holding r) (r ≡ holds)
holding_is holds = (λ _. refl, λ _. refl)
holding_is short = (λ h. absurd (false≢true h), λ e. ap is_holding e)
holding_is long = (λ h. absurd (false≢true h), λ e. ap is_holding e)
holding_is attaches = (λ h. absurd (false≢true h), λ e. ap is_holding e)

pub attaching_is : (r : Role) → Decides (is_attaching r) (r ≡ attaches)
attaching_is holds = (λ h. absurd (false≢true h), λ e. ap is_attaching e)
attaching_is short = (λ h. absurd (false≢true h), λ e. ap is_attaching e)
attaching_is long = (λ h. absurd (false≢true h), λ e. ap is_attaching e)
attaching_is attaches = (λ _. refl, λ _. refl)

pub same_id : Id → Id → Bool
same_id x y = x.0 == y.0

pub same_is : (x y : Id) → Decides (same_id x y) (x ≡ y)
unfolding same_id
same_is x y = (
  λ h. let e = eqb-true x.0 y.0 h in λ i. record { 0 = e i },
  λ e. eq-eqb x.0 y.0 (ap (λ (z : Id). z.0) e),
)

target_decides : (x : Id) (o : Option Id) → Decides (is_target x.0 o) (o ≡ Some x)
target_decides x o = (target_is x o, is_the_target x o)

-- whether a list has a name
named_decides : (x : Id) (xs : List (Option Id))
    → Decides (list_any (is_target x.0) xs) (Contains xs (Some x))
named_decides x xs =
    Decides-like (list_any (is_target x.0) xs) (λ h. subst (λ o. Contains xs o) h.1.1 h.1.0)
    (λ h. (Some x, (h, refl))) (decides_any (λ o. o ≡ Some x) (is_target x.0) (target_decides x) xs)

module _ (s : State) where
  -- the identities of the objects, in rising order
  abbrev pub ids : List Id
  ids = map (λ (k : ℕ). record { 0 = k }) (keys s.objects)

  pub in_ids : (x : Id) → IsSome (get s.objects x.0) → Contains ids x
  in_ids x h =
      let (o, e) = some_value (get s.objects x.0) h in
      mapped_in (λ (k : ℕ). record { 0 = k }) (keys s.objects) x.0
      (mapped_in (λ (g : ℕ × Object Id). g.0) _ (x.0, o) (entry_of s.objects x.0 o e))

  -- the slots that may have a row, and the rows in them
  abbrev pub slots : List ℕ
  slots = keys s.handles ++ keys s.weak

  pub in_slots : (slot : ℕ) (h : Handle Id) → row_of s slot ≡ Some h → Contains slots slot
  in_slots slot h e =
      ⊎_elim (λ is. Contains-append_left (keys s.handles) (keys s.weak) slot (in_keys s.handles slot
      (ap is_some is)))
      (λ weak. Contains-append_right (keys s.handles) (keys s.weak) slot (in_keys s.weak slot
      (ap is_some weak.1.1.0)))
      (row_cases s slot h e)

  abbrev tested : (Handle Id → Bool) → ℕ → Bool
  tested test slot = option_map_or test (row_of s slot) false

  -- whether some row passes
  row_decides : (P : Handle Id → Type 0) (test : Handle Id → Bool) → ((h : Handle Id)
      → Decides (test h) (P h))
      → Decides (list_any (tested test) slots) ((slot : ℕ) × ((h : Handle Id) ×
      ((row_of s slot ≡ Some h) × P h)))
  row_decides P test each =
      Decides-like (list_any (tested test) slots) (λ h. (h.0, h.1.1))
      (λ h. (h.0, (in_slots h.0 h.1.0 h.1.1.0, h.1)))
      (decides_any (λ slot. (h : Handle Id) × ((row_of s slot ≡ Some h) × P h)) (tested test)
      (λ slot. of_row slot (row_of s slot) refl) slots)
    where
      of_row : (slot : ℕ) (o : Option (Handle Id)) → row_of s slot ≡ o
          → Decides (option_map_or test o false) ((h : Handle Id) × ((o ≡ Some h) × P h))
      of_row slot None e = (λ h. absurd (false≢true h), λ h. absurd (none-some h.0 h.1.0))
      of_row slot (Some g) e = (
        λ h. (g, (refl, (each g).0 h)),
        λ h. subst (λ x. test x ≡ true) (sym (same_Some g h.0 h.1.0)) ((each h.0).1 h.1.1),
      )

  attaching : Id → Id → Handle Id → Bool
  attaching x y h = is_attaching (role h) && (is_target x.0 h.target && is_target y.0 (secondary_of h.extra))

  pub is_edge : Id → Id → Bool
  is_edge x y =
      list_any (is_target y.0) (fields_in (get s.objects x.0)) || list_any (tested (attaching x y)) slots

  pub edge_is : (x y : Id) → Decides (is_edge x y) (Edge s x y)
  unfolding is_edge attaching
  edge_is x y =
      Decides-or (list_any (is_target y.0) (fields_in (get s.objects x.0)))
      (list_any (tested (attaching x y)) slots) (named_decides y (fields_in (get s.objects x.0)))
      (Decides-like (list_any (tested (attaching x y)) slots)
      (λ h. record {
        slot = h.0;
        handle = h.1.0;
        is_stored = h.1.1.0;
        attaches = h.1.1.1.0;
        target = h.1.1.1.1.0;
        secondary = h.1.1.1.1.1;
      })
      (λ (a : IsAttached (scene_of s).handle x y).
      (a.slot, (a.handle, (a.is_stored, (a.attaches, (a.target, a.secondary))))))
      (row_decides
      (λ h. (role h ≡ attaches) × ((h.target ≡ Some x) × (secondary_of h.extra ≡ Some y))) (attaching x y)
      (λ h. Decides-and (is_attaching (role h))
      (is_target x.0 h.target && is_target y.0 (secondary_of h.extra)) (attaching_is (role h))
      (Decides-and (is_target x.0 h.target) (is_target y.0 (secondary_of h.extra))
      (target_decides x h.target) (target_decides y (secondary_of h.extra))))))

  holding : Id → Handle Id → Bool
  holding x h = is_holding (role h) && is_target x.0 h.target

  held_decides : (x : Id) → Decides (list_any (tested (holding x)) slots) (IsHeld (scene_of s).handle x)
  unfolding holding
  held_decides x =
      Decides-like (list_any (tested (holding x)) slots)
      (λ h. record { slot = h.0; handle = h.1.0; is_stored = h.1.1.0; holds = h.1.1.1.0; target = h.1.1.1.1 })
      (λ (h : IsHeld (scene_of s).handle x). (h.slot, (h.handle, (h.is_stored, (h.holds, h.target)))))
      (row_decides (λ h. (role h ≡ holds) × (h.target ≡ Some x)) (holding x)
      (λ h. Decides-and (is_holding (role h)) (is_target x.0 h.target) (holding_is (role h))
      (target_decides x h.target)))

  queue_decides : (x : Id) → Decides (list_any (λ y. same_id y x) s.queue) (Contains s.queue x)
  queue_decides x =
      Decides-like (list_any (λ y. same_id y x) s.queue) (λ h. subst (λ z. Contains s.queue z) h.1.1 h.1.0)
      (λ h. (x, (h, refl))) (decides_any (λ y. y ≡ x) (λ y. same_id y x) (λ y. same_is y x) s.queue)

  -- whether an object is an anchor
  pub is_anchor : List (Option Id) → Id → Bool
  is_anchor xs x =
      list_any (is_target x.0) xs
      || (list_any (λ y. same_id y x) s.queue || list_any (tested (holding x)) slots)

  pub anchor_is : (xs : List (Option Id)) (x : Id) → Decides (is_anchor xs x) (IsAnchor xs (scene_of s) x)
  unfolding is_anchor
  anchor_is xs x =
      Decides-like (is_anchor xs x)
      (⊎_elim in_static (⊎_elim in_queue by_handle)) back
      (Decides-or (list_any (is_target x.0) xs) _ (named_decides x xs)
      (Decides-or (list_any (λ y. same_id y x) s.queue) _ (queue_decides x) (held_decides x)))
    where
      back : IsAnchor xs (scene_of s) x
          → Contains xs (Some x) ⊎ (Contains s.queue x ⊎ IsHeld (scene_of s).handle x)
      back (in_static a) = inl a
      back (in_queue b) = inr (inl b)
      back (by_handle c) = inr (inr c)

  module _ (n : ℕ) where
    older_decides : (x : Id)
        → Decides (nat_lt n (generation_at (scene_of s).object x)) (n < generation_at (scene_of s).object x)
    older_decides x = (
      ltb-true n (generation_at (scene_of s).object x),
      lt-ltb n (generation_at (scene_of s).object x),
    )

    pub is_root : Id → Bool
    is_root x = is_anchor (scene_of s).named x || nat_lt n (generation_at (scene_of s).object x)

    pub root_is : (x : Id) → Decides (is_root x) (IsRoot (scene_of s) n x)
    unfolding is_root
    root_is x =
        Decides-like (is_root x) (⊎_elim (anchor_root n (λ y h. h)) older) (root_anchor n)
        (Decides-or (is_anchor (scene_of s).named x) _ (anchor_is (scene_of s).named x) (older_decides x))

    -- whether a chain leads from a start to an object
    pub is_led : (Id → Bool) → Id → Bool
    is_led start y = list_any (λ r. start r && through (Edge s) same_id is_edge same_is edge_is ids r y) ids

    pub is_reach : Id → Bool
    is_reach = is_led is_root

    resurrects : Option (Object Id) → Bool → Bool
    resurrects None reached = false
    resurrects (Some o) reached = o.registered && (nat_le o.generation n && not reached)

    pub is_resurrected : Id → Bool
    is_resurrected x = resurrects (get s.objects x.0) (is_reach x)

    pub is_kept : Id → Bool
    is_kept = is_led (λ x. is_reach x || is_resurrected x)

    module _ (w : IsWhole (scene_of s)) where
      pub led_is : (Start : Id → Type 0) (start : Id → Bool) → ((x : Id) → Decides (start x) (Start x))
          → ((x : Id) → Start x → is_object (scene_of s).object x ≡ true) → (y : Id)
          → Decides (is_led start y) ((r : Id) × (Start r × Leads (Edge s) r y))
      unfolding is_led
      led_is Start start start_is objects y =
          decides_led (Edge s) same_id is_edge same_is edge_is ids
          (λ x. is_object (scene_of s).object x ≡ true) in_ids
          (λ x z h e. edge_object n (scene_of s) w x z e) Start start start_is objects y

      pub reach_is : (x : Id) → Decides (is_reach x) (IsReached (scene_of s) n x)
      unfolding is_reach
      reach_is x = led_is (IsRoot (scene_of s) n) is_root root_is (root_object n (scene_of s) w) x

      resurrects_is : (x : Id) (o : Option (Object Id)) → get s.objects x.0 ≡ o
          → Decides (resurrects o (is_reach x)) (IsToBeFinalized (scene_of s) n x)
      unfolding resurrects
      resurrects_is x None e = (
        λ h. absurd (false≢true h),
        λ v. absurd (false≢true (sym (ap is_some e) ∙ ap is_some v.is_stored)),
      )
      resurrects_is x (Some o) e =
          Decides-like (o.registered && (nat_le o.generation n && not (is_reach x)))
          (λ h. record { object = o; is_stored = e; registered = h.0; young = h.1.0; lost = h.1.1 })
          (λ (v : IsToBeFinalized (scene_of s) n x).
          let same : v.object ≡ o = same_Some v.object o (sym v.is_stored ∙ e) in (
            ap (λ (q : Object Id). q.registered) (sym same) ∙ v.registered,
            (subst (λ (q : Object Id). q.generation ≤ n) same v.young, v.lost),
          ))
          (Decides-and o.registered (nat_le o.generation n && not (is_reach x)) (λ h. h, λ h. h)
          (Decides-and (nat_le o.generation n) (not (is_reach x))
          (leb-true o.generation n, le-leb o.generation n) (
            λ out reached. true≢false (sym ((reach_is x).1 reached) ∙ not_true (is_reach x) out),
            λ lost. ⊎_elim (λ yes. absurd (lost ((reach_is x).0 yes))) (not_from_false (is_reach x))
                (cases_Bool (is_reach x)),
          )))
        where
          not_true : (b : Bool) → not b ≡ true → b ≡ false
          not_true true h = absurd (false≢true h)
          not_true false h = refl

      pub resurrected_is : (x : Id) → Decides (is_resurrected x) (IsToBeFinalized (scene_of s) n x)
      unfolding is_resurrected
      resurrected_is x = resurrects_is x (get s.objects x.0) refl

      pub kept_is : (x : Id) → Decides (is_kept x) (IsKept (scene_of s) n x)
      unfolding is_kept
      kept_is x =
          led_is (λ r. IsReached (scene_of s) n r ⊎ IsToBeFinalized (scene_of s) n r)
          (λ r. is_reach r || is_resurrected r)
          (λ r. Decides-or (is_reach r) (is_resurrected r) (reach_is r) (resurrected_is r))
          (λ r h. ⊎_elim (λ a. reached_object n (scene_of s) w r a)
          (λ (v : IsToBeFinalized (scene_of s) n r). ap is_some v.is_stored) h) x
