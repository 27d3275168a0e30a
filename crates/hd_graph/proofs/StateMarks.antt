-- What is kept of what is seen of a state is what a collection of all generations keeps of the state.
use Rattle.std.proofs.Common.{Bool, Contains, Decides, List, None, Option, Some, ap, arith, false, inl, inr, is_some, not, refl, subst, sym, true, true≢false, ℕ, ⊎_elim, ◌<◌, ◌∙◌, ◌≡◌}
use Rattle.std.specs.FinMap.{get}
use Rattle.std.specs.Prelude.{flat_map, map}
use Rattle.std.proofs.lemmas.Bool.Decides.{same_from_decides}
use Rattle.std.proofs.lemmas.List.Elements.{Contains-append_cases, Contains-append_left, Contains-append_right}
use Rattle.std.proofs.lemmas.Option.{same_Some}
use Rattle.hd_model.proofs.EdgeChains.{leads_on}
use Rattle.hd_model.proofs.Members.{joined_from, joined_in, mapped_from, mapped_in}
use Rattle.hd_model.proofs.Reports.{kept_since}
use Rattle.hd_model.proofs.SceneCollection.{reached_kept, still_object}
use Rattle.hd_model.proofs.UseChains.{Edge, chain_led, led_chain, reached_use, resurrected_to_be_finalized, to_be_finalized_resurrected, use_reached}
use Rattle.hd_model.proofs.WholeScenes.{whole_scene}
use Rattle.hd_model.specs.Anchors.{AnchorOf, by_handle, in_queue, in_static}
use Rattle.hd_model.specs.Collect.{CollectsState}
use Rattle.hd_model.specs.declared.data.Report.{Report}
use Rattle.hd_model.specs.declared.data.Id.{Id}
use Rattle.hd_model.specs.declared.limits.TheConstants.{OLDEST}
use Rattle.hd_model.specs.InUse.{IsGarbage, IsResurrected}
use Rattle.hd_model.specs.Leads.{Leads}
use Rattle.hd_model.specs.Reach as scene
use Rattle.hd_model.specs.Reach.{IsToBeFinalized, held, named as by_name, older, queued}
use Rattle.hd_model.specs.Scene.{IsWhole, generation_in, joined, scene_of}
use Rattle.hd_model.specs.State.{Object, State}
use Rattle.hd_seen.specs.Seen.{ObjectSeen, Picture, object_shown, picture, view_seen}
use Rattle.hd_seen.specs.declared.SeenObject.{SeenObject}
use Rattle.hd_seen.specs.declared.Snapshot.{Snapshot}
use Rattle.hd_links.specs.Graph.{LeadsOn, named}
use Rattle.hd_links.specs.Shown.{IsPictureOf}
use Rattle.hd_links.proofs.Members.{flat_from, flat_in, numbers_from, numbers_in}
use Rattle.hd_links.proofs.SeenStates.{object_of, object_seen_of}
use Rattle.hd_links.proofs.StateEdges.{anchor_from, anchor_seen, edge_from, edge_seen}
use Rattle.hd_graph.specs.Kept.{AreKept, IsKept, IsReached, IsRegistered, IsRoot, row_numbers}
use Rattle.hd_graph.specs.Laws.{AllStayAsMarked, GreyIsRemoved, StaysAsMarked}

-- what is kept and not marked is not so, and an object that is garbage is not kept
module _ (s : State) (x : Id) (object : is_some (get s.objects x.0) ≡ true) where
  abbrev Kept : Type 0
  Kept = scene.IsKept (scene_of s) OLDEST x

  lost_garbage : (Kept → ⊥) → IsGarbage OLDEST s x
  lost_garbage lost = record {
    object = object;
    out_of_use = λ used. lost (reached_kept OLDEST (scene_of s) x (use_reached s OLDEST x used));
    not_rescued = λ led.
        let (start, rest) = led_chain s (IsResurrected OLDEST s) led in
        lost (start, (inr (resurrected_to_be_finalized s OLDEST start rest.0), rest.1));
  }

  garbage_lost : IsGarbage OLDEST s x → Kept → ⊥
  garbage_lost g h =
      ⊎_elim
      (λ (reached : scene.IsReached (scene_of s) OLDEST h.0).
      g.out_of_use (reached_use s OLDEST x
      (reached.0, (reached.1.0, leads_on (Edge s) reached.1.1 h.1.1))))
      (λ (v : IsToBeFinalized (scene_of s) OLDEST h.0).
      g.not_rescued
      (chain_led s (IsResurrected OLDEST s) (to_be_finalized_resurrected s OLDEST h.0 v) h.1.1)) h.1.0

  garbage_by : (marked : Bool) → Decides marked Kept → Decides (not marked) (IsGarbage OLDEST s x)
  garbage_by true is = (
    λ none. absurd (true≢false (sym none)),
    λ g. absurd (garbage_lost g (is.0 refl)),
  )
  garbage_by false is = (λ _. lost_garbage (λ h. true≢false (sym (is.1 h))), λ _. refl)

module _ (seen : Snapshot) (s : State) (p : IsPictureOf (view_seen seen) s) where
  whole : IsWhole (scene_of s)
  whole = whole_scene p.numbers s p.well_formed

  -- ---- chains

  up : {x y : ℕ} → Leads (LeadsOn seen) x y → Leads (Edge s) (named x) (named y)
  up Leads.here = Leads.here
  up (Leads.more {y = y} {z = z} chain edge) = Leads.more (up chain) (edge_from seen s p y z edge)

  down : {x y : Id} → Leads (Edge s) x y → Leads (LeadsOn seen) x.0 y.0
  down Leads.here = Leads.here
  down (Leads.more {y = y} {z = z} chain edge) = Leads.more (down chain) (edge_seen seen s p y.0 z.0 edge)

  -- ---- roots

  registers_are : seen.registers.items ≡ s.registers
  registers_are = ap (λ (q : Picture). q.registers) p.shows

  anchor_root : (x : ℕ) → AnchorOf s (named x) → scene.IsRoot (scene_of s) OLDEST (named x)
  anchor_root x (in_static has) =
      by_name (Contains-append_right (joined s.registers) s.statics (Some (named x)) has)
  anchor_root x (in_queue has) = queued has
  anchor_root x (by_handle row) = held row

  root_up : (x : ℕ) → IsRoot seen x → scene.IsRoot (scene_of s) OLDEST (named x)
  root_up x =
      ⊎_elim (λ anchor. anchor_root x (anchor_from seen s p x anchor))
      (λ has.
      let row = flat_from row_numbers seen.registers.items x has in
      by_name (Contains-append_left (joined s.registers) s.statics (Some (named x))
      (joined_in s.registers row.0 (Some (named x))
      (subst (λ (l : List (List (Option Id))). Contains l row.0) registers_are row.1)
      (numbers_from row.0 x row.2))))

  register_down : (x : ℕ) → Contains (joined s.registers) (Some (named x))
      → Contains (flat_map row_numbers seen.registers.items) x
  register_down x has =
      let (row, rest) = joined_from s.registers (Some (named x)) has in
      flat_in row_numbers seen.registers.items row x
      (subst (λ (l : List (List (Option Id))). Contains l row) (sym registers_are) rest.0)
      (numbers_in row x rest.1)

  -- none is older than the oldest generation
  none_older : (x : ℕ) (b : Option (Object Id)) → get s.objects x ≡ b → OLDEST < generation_in b → ⊥
  none_older x None is above = omega (arith, above)
  none_older x (Some b) is above =
      let most = p.well_formed.objects.generations x b is in omega (arith, above, most)

  root_down : (x : ℕ) → scene.IsRoot (scene_of s) OLDEST (named x) → IsRoot seen x
  root_down x (by_name has) =
      ⊎_elim (λ register. inr (register_down x register))
      (λ static. inl (anchor_seen seen s p x (in_static static)))
      (Contains-append_cases (joined s.registers) s.statics (Some (named x)) has)
  root_down x (queued has) = inl (anchor_seen seen s p x (in_queue has))
  root_down x (held row) = inl (anchor_seen seen s p x (by_handle row))
  root_down x (older above) = absurd (none_older x (get s.objects x) refl above)

  -- ---- what is reached, registered and kept

  reached_up : (x : ℕ) → IsReached seen x → scene.IsReached (scene_of s) OLDEST (named x)
  reached_up x h = (named h.0, (root_up h.0 h.1.0, up h.1.1))

  reached_down : (x : ℕ) → scene.IsReached (scene_of s) OLDEST (named x) → IsReached seen x
  reached_down x h = (h.0.0, (root_down h.0.0 h.1.0, down h.1.1))

  lost_up : (x : ℕ) → IsRegistered seen x → (IsReached seen x → ⊥)
      → IsToBeFinalized (scene_of s) OLDEST (named x)
  lost_up x r lost =
      let there = ap (get s.objects) (sym r.is) ∙ object_of seen s p r.object r.among in record {
        object = (object_shown r.object).object;
        is_stored = there;
        registered = r.registered;
        young = p.well_formed.objects.generations x (object_shown r.object).object there;
        lost = λ reached. lost (reached_down x reached);
      }

  lost_down : (x : ℕ) → IsToBeFinalized (scene_of s) OLDEST (named x)
      → IsRegistered seen x × (IsReached seen x → ⊥)
  lost_down x v =
      let o = object_seen_of seen s p x v.object v.is_stored in
      let is : (object_shown o.0).object ≡ v.object =
      same_Some (object_shown o.0).object v.object
      (sym (object_of seen s p o.0 o.1) ∙ ap (get s.objects) o.2 ∙ v.is_stored) in (
        record {
          object = o.0;
          among = o.1;
          is = o.2;
          registered = ap (λ (b : Object Id). b.registered) is ∙ v.registered;
        },
        λ reached. v.lost (reached_up x reached),
      )

  kept_up : (x : ℕ) → IsKept seen x → scene.IsKept (scene_of s) OLDEST (named x)
  kept_up x h = (
    named h.0,
    (
      ⊎_elim (λ reached. inl (reached_up h.0 reached)) (λ lost. inr (lost_up h.0 lost.0 lost.1)) h.1.0,
      up h.1.1,
    ),
  )

  kept_down : (x : ℕ) → scene.IsKept (scene_of s) OLDEST (named x) → IsKept seen x
  kept_down x h = (
    h.0.0,
    (
      ⊎_elim (λ reached. inl (reached_down h.0.0 reached)) (λ lost. inr (lost_down h.0.0 lost)) h.1.0,
      down h.1.1,
    ),
  )

  -- ---- tests

  stays : (x : Id) (marked : Bool) → Decides marked (scene.IsKept (scene_of s) OLDEST x) → (t : State)
      (r : Report) → CollectsState OLDEST s t r → is_some (get t.objects x.0) ≡ marked
  stays x marked is t r did =
      let c = did.scene in
      let there : Decides (is_some (get t.objects x.0)) (scene.IsKept (scene_of s) OLDEST x) = (
        λ some. (c.kept_is x).0
            (kept_since (λ (y : Id). y.0) OLDEST (scene_of s) (scene_of t) r whole c x some),
        λ h. still_object (λ (y : Id). y.0) OLDEST (scene_of s) (scene_of t) r whole c x ((c.kept_is x).1 h),
      ) in
      same_from_decides (is_some (get t.objects x.0)) marked there is

  one : (o : SeenObject) → Contains seen.objects.items o → (marked : Bool)
      → Decides marked (IsKept seen o.id.0) → StaysAsMarked s o.id marked
  one o has marked is =
      let decided : Decides marked (scene.IsKept (scene_of s) OLDEST o.id) =
      (λ so. kept_up o.id.0 (is.0 so), λ h. is.1 (kept_down o.id.0 h)) in
      let object : is_some (get s.objects o.id.0) ≡ true = ap is_some (object_of seen s p o has) in record {
        kept = decided;
        garbage = garbage_by s o.id object marked decided;
        stays = stays o.id marked decided;
      }

  abbrev shown_objects : List ObjectSeen
  shown_objects = (picture p.numbers s p.ages p.heap p.table).objects

  shown_are : map object_shown seen.objects.items ≡ shown_objects
  shown_are = ap (λ (q : Picture). q.objects) p.shows

  pub marked_as_state : (kept : ℕ → Bool) → AreKept seen kept → AllStayAsMarked s shown_objects kept
  marked_as_state kept are q has =
      let o = mapped_from object_shown seen.objects.items q
      (subst (λ (l : List ObjectSeen). Contains l q) (sym shown_are) has) in
      subst (λ (z : ObjectSeen). StaysAsMarked s z.id (kept z.id.0)) o.1.1
      (one o.0 o.1.0 (kept o.0.id.0) (are o.0 o.1.0))

  pub state_as_marked : (kept : ℕ → Bool) → AllStayAsMarked s shown_objects kept → AreKept seen kept
  state_as_marked kept all o has =
      let is = (all (object_shown o) (subst (λ (l : List ObjectSeen). Contains l (object_shown o)) shown_are
      (mapped_in object_shown seen.objects.items o has))).kept in (
        λ so. kept_down o.id.0 (is.0 so),
        λ h. is.1 (kept_up o.id.0 h),
      )

pub grey_is_removed : GreyIsRemoved
grey_is_removed seen n s ages h t kept well_formed shows =
    let p : IsPictureOf (view_seen seen) s = record {
      numbers = n;
      ages = ages;
      heap = h;
      table = t;
      well_formed = well_formed;
      shows = shows;
    } in
    (marked_as_state seen s p kept, state_as_marked seen s p kept)
