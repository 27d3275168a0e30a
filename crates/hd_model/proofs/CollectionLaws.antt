-- The laws of collections, from what is proved of scenes.
use Rattle.hd_model.proofs.Basics.{Bool, CollectionsKeepWellFormed, GrownAgesAreSound, Id, IsRoot, IsUsed, LoweredAgesAreSound, NoneDanglesAfter, Object, OlderObjectsStay, ReadingsKeepWhatIsKept, SecondCollectionIsIdle, Some, State, UsedObjectsStay, ap, by_handle, cases_Bool, false, generation_in, get, held, in_queue, in_register, in_static, inl, inr, named, nat_cmp-IsAntisymmetric, nat_cmp_total, not, older, queued, refl, same_map, scene_of, subst, survivor, sym, true, ℕ, ⊎_elim, ◌&&◌, ◌<◌, ◌∙◌, ◌≡◌}
use Rattle.hd_model.proofs.{WeakSlots.handle_left, WeakSlots.weak_left, WellFormedCollection.collection_keeps_well_formed, Ages.lowered_sound, Ages.grown_sound}
use Rattle.hd_model.proofs.SceneCollection.{keeps_root, still_object, object_after, root_reached}
use Rattle.hd_model.proofs.WholeScenes.{whole_scene, register_named, static_named}
use Rattle.hd_model.proofs.IdleCollection.{raised_older, idle_removed, idle_short, idle_long, idle_dep, idle_resurrected, idle_row, idle_queue}
use Rattle.hd_model.proofs.RenamedReach.{reached_read, reached_same, resurrected_read, resurrected_same, kept_read, kept_same}

pub collections_keep_well_formed : CollectionsKeepWellFormed
collections_keep_well_formed m n s t r h = collection_keeps_well_formed m n s t r h.well_formed h.collects

-- what is used is a root of any generation
pub used_root : (n : ℕ) (s : State) (x : Id) → IsUsed s x → IsRoot (scene_of s) n x
used_root n s x (in_register c d e) = named (register_named s c d x e)
used_root n s x (in_static k e) = named (static_named s k x e)
used_root n s x (in_queue h) = queued h
used_root n s x (by_handle slot h is_stored holding e) =
    held (record { slot = slot; handle = h; is_stored = is_stored; holds = holding; target = e })

pub used_objects_stay : UsedObjectsStay
used_objects_stay m n s t r x h used =
    let w = whole_scene m s h.well_formed in
    let rank : Id → ℕ = λ y. y.0 in
    still_object rank n (scene_of s) (scene_of t) r w h.collects.scene x
    (keeps_root rank n (scene_of s) (scene_of t) r w h.collects.scene x (used_root n s x used))

pub none_dangles_after : NoneDanglesAfter
none_dangles_after m n s t r h =
    let w = collection_keeps_well_formed m n s t r h.well_formed h.collects in
    record { registers = w.names.registers; statics = w.names.statics }

pub unregistered : (a b : Bool) → b ≡ false → (a && not b) ≡ a
unregistered true b e = ap not e
unregistered false b e = refl

-- an older object that is not resurrected stays as it was
survivor_same : (n : ℕ) (resurrected : Bool) (o : Object Id) → n < o.generation → resurrected ≡ false
    → survivor n resurrected o ≡ o
survivor_same n resurrected o l e = λ i. record {
  fields = o.fields;
  value = o.value;
  generation = raised_older n o.generation l i;
  registered = unregistered o.registered resurrected e i;
}

pub older_objects_stay : OlderObjectsStay
older_objects_stay m n s t r id o h is_stored above =
    let w = whole_scene m s h.well_formed in
    let rank : Id → ℕ = λ y. y.0 in
    let c = h.collects.scene in
    let x : Id = record { 0 = id } in
    let root : IsRoot (scene_of s) n x =
    older (subst (λ g. n < g) (sym (ap generation_in is_stored)) above) in
    let not_resurrected : c.resurrected x ≡ false =
    ⊎_elim (λ yes. absurd (((c.resurrected_is x).0 yes).lost (root_reached n (scene_of s) x root))) (λ no. no)
    (cases_Bool (c.resurrected x)) in
    object_after rank n (scene_of s) (scene_of t) r w c x o
    (keeps_root rank n (scene_of s) (scene_of t) r w c x root) is_stored
    ∙ ap (λ p. Some p) (survivor_same n (c.resurrected x) o above not_resurrected)

pub second_collection_is_idle : SecondCollectionIsIdle
second_collection_is_idle m n s t u r q h again =
    let w = whole_scene m s h.well_formed in
    let rank : Id → ℕ = λ y. y.0 in
    let c = h.collects.scene in
    let d = again.scene in
    let after = collection_keeps_well_formed m n s t r h.well_formed h.collects in
    let row = idle_row rank n (scene_of s) (scene_of t) (scene_of u) r q w c d in
    record {
      removed = idle_removed rank n (scene_of s) (scene_of t) (scene_of u) r q w c d;
      short = idle_short rank n (scene_of s) (scene_of t) (scene_of u) r q w c d;
      long = idle_long rank n (scene_of s) (scene_of t) (scene_of u) r q w c d;
      dep = idle_dep rank n (scene_of s) (scene_of t) (scene_of u) r q w c d;
      resurrected = idle_resurrected rank n (scene_of s) (scene_of t) (scene_of u) r q w c d;
      handles =
          same_map nat_cmp_total nat_cmp-IsAntisymmetric u.handles t.handles
          (λ slot. again.handles slot
          ∙ handle_left t d.reach d.kept slot (row slot) (get t.handles slot) refl);
      weak =
          same_map nat_cmp_total nat_cmp-IsAntisymmetric u.weak t.weak
          (λ slot. again.weak slot
          ∙ weak_left t d.reach d.kept slot (row slot) (after.weak.apart slot) (get t.weak slot) refl);
      queue = idle_queue rank n (scene_of s) (scene_of t) (scene_of u) r q w c d;
    }

pub readings_keep_what_is_kept : ReadingsKeepWhatIsKept
readings_keep_what_is_kept f n s t x w g h = record {
  reached = (reached_read f n s t w g x, reached_same f n s t w g x h);
  resurrected = (resurrected_read f n s t w g x, resurrected_same f n s t w g x h);
  kept = (kept_read f n s t w g x, kept_same f n s t w g x h);
}

pub lowered_ages_are_sound : LoweredAgesAreSound
lowered_ages_are_sound o old new ages slot g sound stores =
    lowered_sound o old new ages slot g sound
    (λ other h x is_stored e. ⊎_elim (λ was. inl was) (λ here. inr (here.0, here.1.target x e))
    (stores.rows other h is_stored))
    (λ other h x is_stored e. ⊎_elim (λ was. inl was) (λ here. inr (here.0, here.1.secondary x e))
    (stores.rows other h is_stored))

pub grown_ages_are_sound : GrownAgesAreSound
grown_ages_are_sound m n s t r ages h sound =
    grown_sound (λ (x : Id). x.0) n (scene_of s) (scene_of t) r
    (whole_scene m s h.well_formed) h.collects.scene ages sound
