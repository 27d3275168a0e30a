-- What becomes of objects, handles, the queue and generations in a collection.
use Rattle.hd_model.proofs.Basics.{Bool, Collects, CollectsState, Contains, Contains-append_cases, Contains-append_right, GarbageGoes, GenerationsRiseOnce, Handle, HasTarget, Id, InUseIsLeftAlone, InUseIsReached, IsGarbage, IsGone, IsInUse, IsLeftAlone, IsReached, IsRescued, IsResurrected, IsToBeFinalized, IsUnregistered, IsWhole, Joins, KeepsContents, None, Object, ObjectsAreResurrectedOnce, Option, QueueGrowsInTurn, Report, RescuedObjectsStay, ResurrectsOnce, RisesOnce, Role, Some, State, ap, arith, attaches, cases_Bool, cleared, cond-true, false, from_start, get, held, holds, in_queue, inl, inr, is_lost, long, loses, loses_by, min, nat_tests, not, option_map, raised, refl, role, same_Some, scene_of, short, subst, survivor, sym, true, true≢false, ℕ, ⊎_elim, ◌&&◌, ◌+◌, ◌∙◌, ◌≡◌, ◌≤◌}
use Rattle.hd_model.proofs.{EdgeChains.leads_on, MapEntries.some_value, WeakSlots.handle_row, WholeScenes.whole_scene, Reports.gone, CollectionLaws.unregistered}
use Rattle.hd_model.proofs.SceneCollection.{kept_object, object_before, object_after, keeps_root, keeps_reached, keeps_resurrected}
use Rattle.hd_model.proofs.IdleCollection.{raised_older, kept_target, loses_none, attaching_lost, cleared_same}
use Rattle.hd_model.proofs.UseChains.{Edge, led_chain, chain_led, use_reached, reached_use, resurrected_to_be_finalized, to_be_finalized_resurrected}

pub young_raised : (n g : ℕ) → g ≤ n → raised n g ≡ min (g + 1) 2
young_raised n g l = grind (arith, nat_tests)

-- a set without the target loses it
pub lost_target : {N : Type 0} (p : N → Bool) (o : Option N) (x : N) → o ≡ Some x → p x ≡ false
    → is_lost p o ≡ true
lost_target p o x e out = ap (is_lost p) e ∙ ap not out

-- a handle that does not hold loses a target that is neither reached nor kept
loses_gone : {N : Type 0} (r : Role) (reach kept : N → Bool) (o : Option N) (x : N) → o ≡ Some x
    → reach x ≡ false → kept x ≡ false → (r ≡ holds → ⊥) → loses_by r reach kept o ≡ true
loses_gone holds reach kept o x e a b never = absurd (never refl)
loses_gone short reach kept o x e a b never = lost_target reach o x e a
loses_gone long reach kept o x e a b never = lost_target kept o x e b
loses_gone attaches reach kept o x e a b never = lost_target kept o x e b

module _ (n : ℕ) (s t : State) (r : Report) (w : IsWhole (scene_of s))
    (did : CollectsState n s t r) where
  abbrev rank : Id → ℕ
  rank x = x.0

  abbrev c : Collects rank n (scene_of s) (scene_of t) r
  c = did.scene

  -- a handle after the collection
  pub handle_after : (slot : ℕ) (g : Handle Id) → get s.handles slot ≡ Some g
      → get t.handles slot ≡ Some (cleared c.reach c.kept g)
  handle_after slot g is_stored = did.handles slot ∙ ap (option_map (cleared c.reach c.kept)) is_stored

  -- what is in use is reached, and what is reached is kept and not resurrected
  pub use_in_reach : (x : Id) → IsInUse n s x → c.reach x ≡ true
  use_in_reach x used = (c.reach_is x).1 (use_reached s n x used)

  pub unused_out : (x : Id) → (IsInUse n s x → ⊥) → c.reach x ≡ false
  unused_out x never = ⊎_elim (λ yes. absurd (never (reached_use s n x ((c.reach_is x).0 yes)))) (λ no. no)
      (cases_Bool (c.reach x))

  pub reach_in_kept : (x : Id) → c.reach x ≡ true → c.kept x ≡ true
  reach_in_kept x e = keeps_reached rank n (scene_of s) (scene_of t) r w c x e

  reached_not_resurrected : (x : Id) → c.reach x ≡ true → c.resurrected x ≡ false
  reached_not_resurrected x e =
      ⊎_elim (λ yes. absurd (((c.resurrected_is x).0 yes).lost ((c.reach_is x).0 e))) (λ no. no)
      (cases_Bool (c.resurrected x))

  -- a handle whose target is in both sets stays as it was
  pub handle_stays : (slot : ℕ) (g : Handle Id) (x : Id) → get s.handles slot ≡ Some g → g.target ≡ Some x
      → c.reach x ≡ true → c.kept x ≡ true → get t.handles slot ≡ Some g
  handle_stays slot g x is_stored target reached kept =
      let in_reach : (y : Id) → g.target ≡ Some y → c.reach y ≡ true =
      λ y e. subst (λ z. c.reach z ≡ true) (same_Some x y (sym target ∙ e)) reached in
      let in_kept : (y : Id) → g.target ≡ Some y → c.kept y ≡ true =
      λ y e. subst (λ z. c.kept z ≡ true) (same_Some x y (sym target ∙ e)) kept in
      handle_after slot g is_stored
      ∙ ap (λ q. Some q) (cleared_same c.reach c.kept g
      (loses_none (role g) c.reach c.kept g.target in_reach in_kept)
      (attaching_lost (role g) (is_lost c.kept g.target) (kept_target c.kept g.target in_kept)))

  -- what joins the queue is resurrected
  joined_resurrected : (x : Id) → Contains t.queue x → (Contains s.queue x → ⊥) → c.resurrected x ≡ true
  joined_resurrected x in_after never =
      ⊎_elim (λ before. absurd (never before)) (λ joins. (c.joins_are x).1 joins)
      (Contains-append_cases s.queue c.joins x (subst (λ xs. Contains xs x) c.queue in_after))

  kept_contents : (x : Id) → c.kept x ≡ true → KeepsContents s t x
  kept_contents x kept =
      let (o, e) = some_value (get s.objects x.0) (kept_object n (scene_of s) w x ((c.kept_is x).0 kept)) in
      record {
        old = o;
        was_stored = e;
        new = survivor n (c.resurrected x) o;
        is_stored = object_after rank n (scene_of s) (scene_of t) r w c x o kept e;
        fields = refl;
        value = refl;
      }

  left_queue : (x : Id) → c.reach x ≡ true → Contains t.queue x → Contains s.queue x
  left_queue x reached in_after =
      ⊎_elim (λ before. before)
      (λ joins. absurd (true≢false (sym ((c.joins_are x).1 joins) ∙ reached_not_resurrected x reached)))
      (Contains-append_cases s.queue c.joins x (subst (λ xs. Contains xs x) c.queue in_after))

  pub left_alone : (x : Id) → IsInUse n s x → IsLeftAlone s t x
  unfolding kept_contents
  left_alone x used =
      let reached = use_in_reach x used in
      record {
        object = kept_contents x (reach_in_kept x reached);
        registered = unregistered _ (c.resurrected x) (reached_not_resurrected x reached);
        handles = λ slot g is_stored target. handle_stays slot g x is_stored target reached
            (reach_in_kept x reached);
        queue = left_queue x reached;
      }

  pub rescued_kept : (x : Id) → IsRescued n s x → c.kept x ≡ true
  rescued_kept x h =
      let (start, rest) = led_chain s (IsResurrected n s) h.led_to in
      (c.kept_is x).1 (start, (inr (resurrected_to_be_finalized s n start rest.0), rest.1))

  pub rescued_contents : (x : Id) → IsRescued n s x → KeepsContents s t x
  rescued_contents x h = kept_contents x (rescued_kept x h)

  -- what is not in use and not led to from what is resurrected is not kept
  garbage_lost : (x : Id) → IsGarbage n s x → c.kept x ≡ false
  garbage_lost x g =
      ⊎_elim
      (λ yes. let (start, rest) = (c.kept_is x).0 yes in
      ⊎_elim
      (λ (reached : IsReached (scene_of s) n start). absurd
      (g.out_of_use (reached_use s n x
      (reached.0, (reached.1.0, leads_on (Edge s) reached.1.1 rest.1)))))
      (λ (v : IsToBeFinalized (scene_of s) n start). absurd
      (g.not_rescued (chain_led s (IsResurrected n s) (to_be_finalized_resurrected s n start v) rest.1)))
      rest.0)
      (λ no. no) (cases_Bool (c.kept x))

  -- a handle whose target is neither reached nor kept has null after it
  pub handle_null : (slot : ℕ) (g : Handle Id) (x : Id) → get s.handles slot ≡ Some g → g.target ≡ Some x
      → c.reach x ≡ false → c.kept x ≡ false → HasTarget t slot None
  handle_null slot g x is_stored target unreached lost = record {
    handle = cleared c.reach c.kept g;
    is_stored = handle_after slot g is_stored;
    target = cond-true (loses c.reach c.kept g) None g.target
        (loses_gone (role g) c.reach c.kept g.target x target unreached lost
        (λ holding. true≢false (sym (keeps_root rank n (scene_of s) (scene_of t) r w c x
        (held (record {
          slot = slot;
          handle = g;
          is_stored = handle_row s slot g is_stored;
          holds = holding;
          target = target;
        })))
        ∙ lost)));
  }

  pub garbage_gone : (x : Id) → IsGarbage n s x → IsGone s t x
  garbage_gone x g =
      let lost = garbage_lost x g in
      record {
        object = gone rank n (scene_of s) (scene_of t) r w c x lost;
        handles =
            λ slot q is_stored target. handle_null slot q x is_stored target (unused_out x g.out_of_use) lost;
      }

  join_resurrected : (x : Id) → Joins s t x → IsResurrected n s x
  join_resurrected x j =
      to_be_finalized_resurrected s n x ((c.resurrected_is x).0 (joined_resurrected x j.queued j.before))

  resurrected_join : (x : Id) → IsResurrected n s x → Joins s t x
  resurrected_join x v = record {
    queued = subst (λ xs. Contains xs x) (sym c.queue)
        (Contains-append_right s.queue c.joins x
        ((c.joins_are x).0 ((c.resurrected_is x).1 (resurrected_to_be_finalized s n x v))));
    before = λ in_before. v.out_of_use (from_start (inl (in_queue in_before)));
  }

  registered_no_more : (a b : Bool) → b ≡ true → (a && not b) ≡ false
  registered_no_more true b e = ap not e
  registered_no_more false b e = refl

  join_unregistered : (x : Id) → Joins s t x → IsUnregistered t x
  join_unregistered x j =
      let resurrected = joined_resurrected x j.queued j.before in
      let v = (c.resurrected_is x).0 resurrected in
      record {
        object = survivor n (c.resurrected x) v.object;
        is_stored = object_after rank n (scene_of s) (scene_of t) r w c x v.object
            (keeps_resurrected rank n (scene_of s) (scene_of t) r w c x resurrected) v.is_stored;
        registered = registered_no_more v.object.registered (c.resurrected x) resurrected;
      }

  pub resurrects_once : ResurrectsOnce n s t
  resurrects_once = record {
    joins = λ x. (join_resurrected x, resurrected_join x);
    after = join_unregistered;
  }

  pub rises_once : (id : ℕ) (old new : Object Id) → get s.objects id ≡ Some old → get t.objects id ≡ Some new
      → RisesOnce n old.generation new.generation
  rises_once id old new before after =
      let (p, both) =
      (object_before rank n (scene_of s) (scene_of t) r w c (record { 0 = id }) new after).1 in
      let same : p.generation ≡ old.generation = ap (λ (o : Object Id). o.generation)
      (same_Some p old (sym both.0 ∙ before)) in
      let now : new.generation ≡ raised n old.generation =
      sym (ap (λ (o : Object Id). o.generation) both.1) ∙ ap (raised n) same in
      record {
        young = λ l. now ∙ young_raised n old.generation l;
        older = λ l. now ∙ raised_older n old.generation l;
      }

pub in_use_is_left_alone : InUseIsLeftAlone
in_use_is_left_alone m n s t r x h used =
    left_alone n s t r (whole_scene m s h.well_formed) h.collects x used

pub rescued_objects_stay : RescuedObjectsStay
rescued_objects_stay m n s t r x h rescued =
    rescued_contents n s t r (whole_scene m s h.well_formed) h.collects x rescued

pub garbage_goes : GarbageGoes
garbage_goes m n s t r x h g = garbage_gone n s t r (whole_scene m s h.well_formed) h.collects x g

pub objects_are_resurrected_once : ObjectsAreResurrectedOnce
objects_are_resurrected_once m n s t r h =
    resurrects_once n s t r (whole_scene m s h.well_formed) h.collects

pub queue_grows_in_turn : QueueGrowsInTurn
queue_grows_in_turn m n s t r h =
    let c = h.collects.scene in record { joins = c.joins; queue = c.queue; rising = c.rising }

pub generations_rise_once : GenerationsRiseOnce
generations_rise_once m n s t r id old new h before after =
    rises_once n s t r (whole_scene m s h.well_formed) h.collects id old new before after

pub in_use_is_reached : InUseIsReached
in_use_is_reached n s x = (use_reached s n x, reached_use s n x)
