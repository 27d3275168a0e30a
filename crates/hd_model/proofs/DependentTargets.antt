-- A dependent handle over a collection, and a state without it.
use Rattle.hd_model.proofs.Basics.{Collects, CollectsState, DependentsKeepNoTarget, DependentsUseNoTarget, Follows, Handle, Id, IsDependent, IsSome, IsWhole, None, Report, SecondariesFollowTargets, Slot, Some, State, ap, attaches, cases_Bool, cases_eq, cond-true, false, get, inl, inr, is_attaching, is_lost, loses, loses_by, none-some, not, option_map, option_or, remove, role, row_of, same_Some, scene_of, secondary, secondary_of, subst, sym, true, weak_handle, without_handle, ℕ, ⊎_elim, ◌&&◌, ◌∙◌, ◌≡◌, ◌≢◌, ◌⊎◌}
use Rattle.hd_model.proofs.{ReadAfterWrite.get_left, ReadAfterWrite.get_removed, WellFormedWrites.removal_keeps, WellFormedWrites.live_not_weak, WeakSlots.handle_row, WholeScenes.whole_scene, SceneCollection.keeps_edge, SceneCollection.still_object, IdleCollection.cleared_same, IdleCollection.attaching_lost, Reports.kept_since, Reports.lost_since, UseChains.dependent_role, Fates.handle_after}
use Rattle.hd_model.proofs.AttachingRows.{use_less, use_was, stays_alike}
use Rattle.hd_model.specs.declared.data.Kind.TheVariants as kind

module _ (s : State) (slot : Slot) (x : Id) (d : IsDependent s slot x) where
  pub dependent_attaches : role d.handle ≡ attaches
  dependent_attaches = dependent_role s d.handle d.kind_is

  module _ (n : ℕ) (t : State) (r : Report) (w : IsWhole (scene_of s))
      (did : CollectsState n s t r) where
    abbrev rank : Id → ℕ
    rank y = y.0

    abbrev c : Collects rank n (scene_of s) (scene_of t) r
    c = did.scene

    secondary_stays : c.kept x ≡ true → (y : Id) → secondary_of d.handle.extra ≡ Some y
        → IsSome (get t.objects y.0)
    secondary_stays kept y second =
        still_object rank n (scene_of s) (scene_of t) r w c y
        (keeps_edge rank n (scene_of s) (scene_of t) r w c x y kept
        (inr (record {
          slot = slot.0;
          handle = d.handle;
          is_stored = handle_row s slot.0 d.handle d.is_stored;
          attaches = dependent_attaches;
          target = d.target;
          secondary = second;
        })))

    stays_with : c.kept x ≡ true → get t.handles slot.0 ≡ Some d.handle
    stays_with kept =
        let lost : is_lost c.kept d.handle.target ≡ false = ap (is_lost c.kept) d.target ∙ ap not kept in
        handle_after n s t r w did slot.0 d.handle d.is_stored
        ∙ ap (λ q. Some q) (cleared_same c.reach c.kept d.handle
        (ap (λ q. loses_by q c.reach c.kept d.handle.target) dependent_attaches ∙ lost)
        (attaching_lost (role d.handle) (is_lost c.kept d.handle.target) lost))

    goes_with : c.kept x ≡ false → get t.handles slot.0
        ≡ Some (record { kind = kind.Dependent; target = None; extra = secondary None })
    goes_with lost =
        let loses_it : is_lost c.kept d.handle.target ≡ true = ap (is_lost c.kept) d.target ∙ ap not lost in
        let loses_target : loses c.reach c.kept d.handle ≡ true =
        ap (λ q. loses_by q c.reach c.kept d.handle.target) dependent_attaches ∙ loses_it in
        let loses_second : (is_attaching (role d.handle) && is_lost c.kept d.handle.target) ≡ true =
        ap (λ q. is_attaching q && is_lost c.kept d.handle.target) dependent_attaches ∙ loses_it in
        handle_after n s t r w did slot.0 d.handle d.is_stored
        ∙ (λ i. Some (record {
          kind = d.kind_is i;
          target = cond-true (loses c.reach c.kept d.handle) None d.handle.target loses_target i;
          extra = cond-true (is_attaching (role d.handle) && is_lost c.kept d.handle.target)
              (secondary None) d.handle.extra loses_second i;
        }))

    pub follows : Follows s t slot.0 d.handle x
    follows = record {
      same = λ h. stays_with (kept_since rank n (scene_of s) (scene_of t) r w c x h);
      stays = λ h y second. secondary_stays (kept_since rank n (scene_of s) (scene_of t) r w c x h) y second;
      cleared = λ none. goes_with
          (lost_since rank n (scene_of s) (scene_of t) r w c x none (cases_Bool (c.kept x)));
    }

-- the state without the handle, whose slot is not the weak table's
module _ (s : State) (slot : Slot) (x : Id) (d : IsDependent s slot x) (not_weak : get s.weak slot.0 ≡ None)
  where
    row_left : (q : ℕ) → q ≢ slot.0 → row_of (without_handle s slot) q ≡ row_of s q
    row_left q apart =
        ap (λ o. option_or o (option_map weak_handle (get s.weak q))) (get_left s.handles slot.0 q apart)

    row_gone : row_of (without_handle s slot) slot.0 ≡ None
    row_gone =
        ap (λ o. option_or o (option_map weak_handle (get s.weak slot.0))) (get_removed s.handles slot.0)
        ∙ ap (option_map weak_handle) not_weak

    none_new : (q : ℕ) (h : Handle Id) → row_of (without_handle s slot) q ≡ Some h
        → (row_of s q ≡ Some h) ⊎ (h.target ≡ None)
    none_new q h e =
        ⊎_elim (λ same. absurd (none-some h (sym row_gone ∙ ap (row_of (without_handle s slot)) (sym same)
        ∙ e)))
        (λ apart. inl (sym (row_left q apart) ∙ e)) (cases_eq q slot.0)

    -- of another row nothing is lost; and its own attaches to the target
    own_or_left : (q : ℕ) (h : Handle Id) → row_of s q ≡ Some h
        → ((role h ≡ attaches) × (h.target ≡ Some x)) ⊎ (row_of (without_handle s slot) q ≡ Some h)
    own_or_left q h e =
        ⊎_elim
        (λ same. let is : d.handle ≡ h = same_Some d.handle h
        (sym (handle_row s slot.0 d.handle d.is_stored) ∙ ap (row_of s) (sym same) ∙ e) in
        inl (subst (λ (g : Handle Id). (role g ≡ attaches) × (g.target ≡ Some x)) is
        (dependent_attaches s slot x d, d.target)))
        (λ apart. inr (row_left q apart ∙ e)) (cases_eq q slot.0)

pub secondaries_follow_targets : SecondariesFollowTargets
secondaries_follow_targets m n s t r slot x h d =
    follows s slot x d n t r (whole_scene m s h.well_formed) h.collects

pub dependents_use_no_target : DependentsUseNoTarget
dependents_use_no_target m n s slot x w d =
    let free = live_not_weak s w.weak slot.0 d.handle d.is_stored in
    let handles = remove s.handles slot.0 in
    let new = none_new s slot x d free in
    let old = own_or_left s slot x d free in
    (use_less s handles s.weak x new old n, use_was s handles s.weak x new old n)

pub dependents_keep_no_target : DependentsKeepNoTarget
dependents_keep_no_target m n s t u r q slot x h without d =
    let free = live_not_weak s h.well_formed.weak slot.0 d.handle d.is_stored in
    stays_alike s (remove s.handles slot.0) s.weak x (none_new s slot x d free)
    (own_or_left s slot x d free) n t u r q (whole_scene m s h.well_formed)
    (whole_scene m (without_handle s slot)
    (removal_keeps m s h.well_formed slot)) h.collects.scene without.scene
