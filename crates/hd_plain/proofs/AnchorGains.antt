-- The anchors of a state are what the machine marks of them, and what is marked is listed by identity.
use Rattle.hd_model.proofs.Basics.{AllPairs, Contains, FinMap, List, arith, false, None, Option, Some, [], ap, cond, contains_key, empty, entries, entries_sorted, false≢true, get, get-empty, inl, inr, is_some, keys, map, nat_cmp, none-some, option_map, refl, same_Some, subst, sym, ℕ, ⊎_elim, ◌<◌, ◌∙◌, ◌∷◌, ◌≡◌, ◌⊎◌}
use Rattle.std.specs.Prelude.{◌↔◌}
use Rattle.hd_model.proofs.MapBuild.{in_keys}
use Rattle.hd_model.proofs.MapEntries.{keys_rise}
use Rattle.hd_model.proofs.Members.{mapped_from, mapped_in}
use Rattle.hd_model.specs.Anchors.{AnchorOf, by_handle, in_queue, in_static}
use Rattle.hd_model.specs.Reach.{IsHeld}
use Rattle.hd_model.specs.Role.{Role, attaches, holds, long, role, short}
use Rattle.hd_model.specs.Scene.{scene_of}
use Rattle.hd_model.specs.State.{Handle, State, WeakEntry, weak_handle}
use Rattle.hd_model.specs.declared.data.Id.{Id}
use Rattle.hd_model.proofs.WeakSlots.{handle_row, weak_attaches}
use Rattle.hd_plain.specs.Inside.{HasGenerations, IsAnchorId, IsYoungAnchor, is_older, young, young_held, referenced, held_at, held_by, is_holding, Gains, with_targets}
use Rattle.hd_maps.proofs.ListBuilds.{IsLive, Lists, keys_listed}
use Rattle.hd_plain.specs.Marked.{Marked}
use Rattle.hd_plain.proofs.AttachedLists.{row_is}
use Rattle.hd_plain.proofs.MarkedSets.{gains_like, gains_then, number}
use Rattle.hd_plain.proofs.YoungObjects.{IsYoungOf, all_young, gains_young}
use Rattle.hd_model.specs.declared.limits.TheConstants.{OLDEST}

holding_is : (r : Role) (t : Option Id) (x : Id) → cond (is_holding r) t None ≡ Some x
    → (r ≡ holds) × (t ≡ Some x)
holding_is holds t x e = (refl, e)
holding_is short t x e = absurd (none-some x e)
holding_is long t x e = absurd (none-some x e)
holding_is attaches t x e = absurd (none-some x e)

pub never_weak : (o : Option (Option (WeakEntry Id))) (h : Handle Id) → option_map weak_handle o ≡ Some h
    → role h ≡ holds → ⊥
never_weak None h e r = none-some h e
never_weak (Some o) h e r =
    let same : weak_handle o ≡ h = same_Some (weak_handle o) h e in
    false≢true (ap is_holding (sym (weak_attaches o) ∙ ap (λ (z : Handle Id). role z) same ∙ r))

held_parts : (o : Option (Handle Id)) (x : Id) → held_by o ≡ Some x
    → (h : Handle Id) × ((o ≡ Some h) × ((role h ≡ holds) × (h.target ≡ Some x)))
held_parts None x e = absurd (none-some x e)
held_parts (Some h) x e = (h, (refl, holding_is (role h) h.target x e))

pub held_from_parts : (h : Handle Id) (x : Id) → role h ≡ holds → h.target ≡ Some x → held_by (Some h) ≡ Some x
held_from_parts h x r t = ap (λ b. cond b h.target None) (ap is_holding r) ∙ t

-- what the handle in a slot holds is held
pub is_held : (s : State) (slot : ℕ) (x : Id) → held_at s.handles slot ≡ Some x → IsHeld (scene_of s).handle x
is_held s slot x e =
    let (h, rest) = held_parts (get s.handles slot) x e in
    record {
      slot = slot;
      handle = h;
      is_stored = handle_row s slot h rest.0;
      holds = rest.1.0;
      target = rest.1.1;
    }

module _ (s : State) (slots : List ℕ) (live : Lists (IsLive s.handles) slots) where
  held_from : (x : Id) → Contains (map (held_at s.handles) slots) (Some x) → IsHeld (scene_of s).handle x
  held_from x c =
      let (k, rest) = mapped_from (held_at s.handles) slots (Some x) c in is_held s k x rest.1

  held_to : (x : Id) → IsHeld (scene_of s).handle x → Contains (map (held_at s.handles) slots) (Some x)
  held_to x h =
      ⊎_elim
      (λ e. subst (λ o. Contains (map (held_at s.handles) slots) o)
      (ap held_by e ∙ held_from_parts h.handle x h.holds h.target)
      (mapped_in (held_at s.handles) slots h.slot (live.all h.slot (ap is_some e))))
      (λ e. absurd (never_weak (get s.weak h.slot) h.handle e h.holds))
      (row_is s h.slot h.handle h.is_stored)

  -- where they are of no generation above n
  module _ (n : ℕ) where
    held_young : (ks : List ℕ)
        → map (young_held n s.objects s.handles) ks ≡ map (young n s.objects) (map (held_at s.handles) ks)
    held_young [] = refl
    held_young (k ∷ ks) = ap (λ os. young_held n s.objects s.handles k ∷ os) (held_young ks)

    pub gains_anchors : (m a b c : Marked) → a ≡ with_targets m (map (young n s.objects) s.statics)
        → b ≡ with_targets a (map (young n s.objects) (referenced s.queue))
        → c ≡ with_targets b (map (young_held n s.objects s.handles) slots) → Gains (IsYoungAnchor n s) m c
    gains_anchors m a b c first second third =
        let statics = IsYoungOf n s.objects s.statics in
        let queue = IsYoungOf n s.objects (referenced s.queue) in
        let held = IsYoungOf n s.objects (map (held_at s.handles) slots) in
        gains_like (λ y. (statics y ⊎ queue y) ⊎ held y) (IsYoungAnchor n s) m c
        (λ y h. ⊎_elim (λ early. ⊎_elim (λ k. (in_static k.0, k.1))
        (λ k. let (x, rest) = mapped_from (λ (z : Id). Some z) s.queue (Some (number y)) k.0 in
        (in_queue (subst (λ z. Contains s.queue z) (same_Some x (number y) rest.1) rest.0), k.1)) early)
        (λ k. (by_handle (held_from (number y) k.0), k.1)) h)
        (λ y h. among y h.0 h.1)
        (gains_then (λ y. statics y ⊎ queue y) held m b c
        (gains_then statics queue m a b
        (subst (λ z. Gains statics m z) (sym first) (gains_young n s.objects m s.statics))
        (subst (λ z. Gains queue a z) (sym second) (gains_young n s.objects a (referenced s.queue))))
        (subst (λ z. Gains held b z) (sym (third ∙ ap (with_targets b) (held_young slots)))
        (gains_young n s.objects b (map (held_at s.handles) slots))))
      where
        among : (y : ℕ) → IsAnchorId s y → is_older n s.objects (number y) ≡ false
            → (IsYoungOf n s.objects s.statics y ⊎ IsYoungOf n s.objects (referenced s.queue) y)
            ⊎ IsYoungOf n s.objects (map (held_at s.handles) slots) y
        among y (in_static k) is = inl (inl (k, is))
        among y (in_queue k) is = inl (inr (mapped_in (λ (z : Id). Some z) s.queue (number y) k, is))
        among y (by_handle k) is = inr (held_to (number y) k, is)

-- all are of no generation above the oldest
pub gains_all : (s : State) → HasGenerations s.objects → (m c : Marked) → Gains (IsYoungAnchor OLDEST s) m c
    → Gains (IsAnchorId s) m c
gains_all s low m c g =
    gains_like (IsYoungAnchor OLDEST s) (IsAnchorId s) m c (λ y h. h.0)
    (λ y a. (a, all_young s.objects low OLDEST (omega arith) (number y))) g

-- ---- what is marked, by identity

pub keys_ascend : (m : FinMap nat_cmp (Unit {0})) → AllPairs (λ x y. x < y) (keys m)
keys_ascend m = keys_rise (entries m) (entries_sorted m)

pub anchors_listed : (s : State) (old new : Marked) → old ≡ record { marked = empty; left = [] }
    → Gains (IsAnchorId s) old new → (x : Id) → Contains (keys new.marked) x.0 ↔ AnchorOf s x
anchors_listed s old new none g x = (
  λ c. ⊎_elim
      (λ was. absurd (false≢true (sym (ap (λ z. contains_key z.marked x.0) none
      ∙ ap is_some (get-empty nat_cmp x.0)) ∙ was)))
      (λ a. a) (g.only x ((keys_listed new.marked (keys new.marked) refl).each x.0 c)),
  λ a. in_keys new.marked x.0 (g.joins x.0 a),
)
