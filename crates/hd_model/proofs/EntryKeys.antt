-- An entry of the weak table over a collection, and a state with the entry taken out.
use Rattle.hd_model.proofs.Basics.{EntriesFollowKeys, EntriesKeepNoKey, EntriesUseNoKey, Handle, Id, IsSome, IsWellFormed, None, Numbers, Option, Slot, Some, State, WeakEntry, ap, attaches, cases_Bool, cases_eq, cond-false, cond-true, false, get, inl, inr, insert, is_some, none-some, option_map, option_or, refl, role, row_of, same_Some, scene_of, subst, swept, sym, true, true≢false, weak_handle, with_weak, ℕ, ⊎_elim, ◌∙◌, ◌≡◌, ◌≢◌, ◌⊎◌}
use Rattle.hd_model.proofs.{ReadAfterWrite.get_inserted, ReadAfterWrite.get_beside, WellFormedWrites.weak_keeps, WholeScenes.whole_scene, SceneCollection.keeps_edge, SceneCollection.still_object, Reports.kept_since, Reports.lost_since}
use Rattle.hd_model.proofs.WeakSlots.{handle_row, weak_row, row_cases, weak_attaches}
use Rattle.hd_model.proofs.AttachingRows.{use_less, use_was, stays_alike, others_alike}
use Rattle.hd_model.specs.WeakEntryLaws.{ValuesGoWithKeys}

pub entries_follow_keys : EntriesFollowKeys
entries_follow_keys m n s t r slot x h held =
    let w = whole_scene m s h.well_formed in
    let rank : Id → ℕ = λ y. y.0 in
    let c = h.collects.scene in
    let after = h.collects.weak slot ∙ ap (option_map (swept c.kept)) held in
    let kept : IsSome (get t.objects x.key.0) → c.kept x.key ≡ true =
    λ stays. kept_since rank n (scene_of s) (scene_of t) r w c x.key stays in
    record {
      same = λ stays. after ∙ ap Some (cond-true (c.kept x.key) (Some x) None (kept stays));
      stays = λ stays y value. still_object rank n (scene_of s) (scene_of t) r w c y
          (keeps_edge rank n (scene_of s) (scene_of t) r w c x.key y (kept stays)
          (inr (record {
            slot = slot;
            handle = weak_handle (Some x);
            is_stored = weak_row s slot (Some x) (h.well_formed.weak.apart slot (ap is_some held)) held;
            attaches = weak_attaches (Some x);
            target = refl;
            secondary = value;
          })));
      gone = λ none. after ∙ ap Some (cond-false (c.kept x.key) (Some x) None
          (lost_since rank n (scene_of s) (scene_of t) r w c x.key none (cases_Bool (c.kept x.key))));
    }

-- the state with the entry taken out
module _ (s : State) (slot : Slot) (x : WeakEntry Id) (held : get s.weak slot.0 ≡ Some (Some x)) where
  abbrev less : State
  less = with_weak s slot None

  row_left : (q : ℕ) → q ≢ slot.0 → row_of less q ≡ row_of s q
  row_left q apart =
      ap (λ o. option_or (get s.handles q) (option_map weak_handle o)) (get_beside s.weak slot.0 None q apart)

  none_new : (q : ℕ) (h : Handle Id) → row_of less q ≡ Some h → (row_of s q ≡ Some h) ⊎ (h.target ≡ None)
  none_new q h e =
      ⊎_elim (λ live. inl (handle_row s q h live))
      (λ weak. ⊎_elim
      (λ same. let idle : None ≡ weak.1.0 = same_Some None weak.1.0
      (sym (get_inserted s.weak slot.0 None) ∙ ap (get less.weak) (sym same) ∙ weak.1.1.0) in
      inr (ap (λ (g : Handle Id). g.target) (sym weak.1.1.1)
      ∙ ap (λ (c : Option (WeakEntry Id)). (weak_handle c).target) (sym idle)))
      (λ apart. inl (sym (row_left q apart) ∙ e)) (cases_eq q slot.0))
      (row_cases less q h e)

  -- of another row nothing is lost; and its own attaches to the key
  own_or_left : (q : ℕ) (h : Handle Id) → row_of s q ≡ Some h
      → ((role h ≡ attaches) × (h.target ≡ Some x.key)) ⊎ (row_of less q ≡ Some h)
  own_or_left q h e =
      ⊎_elim (λ live. inr (handle_row less q h live))
      (λ weak. ⊎_elim
      (λ same. let is : Some x ≡ weak.1.0 = same_Some (Some x) weak.1.0
      (sym held ∙ ap (get s.weak) (sym same) ∙ weak.1.1.0) in
      inl (subst (λ (g : Handle Id). (role g ≡ attaches) × (g.target ≡ Some x.key))
      (ap weak_handle is ∙ weak.1.1.1) (weak_attaches (Some x), refl)))
      (λ apart. inr (row_left q apart ∙ e)) (cases_eq q slot.0))
      (row_cases s q h e)

pub entries_use_no_key : EntriesUseNoKey
entries_use_no_key n s slot x held =
    let weak = insert s.weak slot.0 None in
    let new = none_new s slot x held in
    let old = own_or_left s slot x held in
    (use_less s s.handles weak x.key new old n, use_was s s.handles weak x.key new old n)

-- taking an entry out keeps a state well formed
pub taken_out : (m : Numbers) (s : State) → IsWellFormed m s → (slot : Slot) → IsSome (get s.weak slot.0)
    → IsWellFormed m (with_weak s slot None)
taken_out m s w slot held =
    weak_keeps m s w slot None (λ y no. absurd (none-some y no)) (λ y no. absurd (none-some y no))
    (w.weak.kinds slot.0 held) (w.weak.apart slot.0 held)

pub entries_keep_no_key : EntriesKeepNoKey
entries_keep_no_key m n s t u r q slot x h without held =
    stays_alike s s.handles (insert s.weak slot.0 None) x.key (none_new s slot x held)
    (own_or_left s slot x held) n t u r q (whole_scene m s h.well_formed)
    (whole_scene m (with_weak s slot None) (taken_out m s h.well_formed slot
    (ap is_some held))) h.collects.scene
    without.scene

pub values_go_with_keys : ValuesGoWithKeys
values_go_with_keys m n s t u r q slot x y h without held none =
    let w = whole_scene m s h.well_formed in
    let c = h.collects.scene in
    let lost : c.kept x.key ≡ false =
    lost_since (λ (z : Id). z.0) n (scene_of s) (scene_of t) r w c x.key none (cases_Bool (c.kept x.key)) in
    others_alike s s.handles (insert s.weak slot.0 None) x.key (none_new s slot x held)
    (own_or_left s slot x held) n (λ kept. true≢false (sym ((c.kept_is x.key).1 kept) ∙ lost)) y t u r q w
    (whole_scene m (with_weak s slot None) (taken_out m s h.well_formed slot (ap is_some held))) c
    without.scene
