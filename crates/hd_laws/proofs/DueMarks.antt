-- What is marked over due clumps and condemned objects alone is what chains of edges lead to.
use Rattle.hd_model.specs.{declared.data.Id.Id, declared.data.Report.Report}
use Rattle.hd_laws.proofs.Basics.{AgesHideNothing}
use Rattle.hd_model.proofs.Basics.{Collects, CollectsState, Handle, HasSoundAges, IsCondemned, IsInUse, IsLedTo, IsOlder, IsResurrected, IsSome, IsUsed, IsWhole, List, None, Object, Option, Some, State, ap, arith, by_dependent, by_field, by_handle, cases_Bool, cases_lt, cleared, false, field_of, from_start, generation_at, generation_in, get, in_queue, in_register, in_static, inl, inr, is_due, is_object, is_some, older, refl, row_of, scene_of, secondary_of, subst, sym, true, ℕ, ⊎_elim, ◌<◌, ◌∙◌, ◌≡◌, ◌≤◌, ◌⊎◌}
use Rattle.hd_laws.specs.DueClumps.{IsDueRoot, due_register, due_static, due_queue, due_holder, older_field, older_target, IsMarked, mark_start, mark_field, mark_secondary, HidesNothing}
use Rattle.hd_model.proofs.{WeakSlots.handle_left, WeakSlots.weak_left, SceneCollection.keeps_root, SceneCollection.root_reached, UseChains.led_chain, UseChains.chain_led}
use Rattle.hd_model.proofs.WholeScenes.{whole_scene, register_named, static_named, field_in}
use Rattle.hd_model.proofs.MarkReach.{undue_target, undue_secondary, undue_stays}
use Rattle.hd_model.specs.declared.data.Kind.TheVariants as kind

module _ (s : State) where
  -- chains from more starts
  pub led_like : (A B : Id → Type 0) → ((x : Id) → A x → B x) → {y : Id} → IsLedTo s A y → IsLedTo s B y
  led_like A B turn h = let (r, rest) = led_chain s A h in chain_led s B (turn r rest.0) rest.1

  -- a chain from either begins at one
  pub led_either : (A B : Id → Type 0) {y : Id} → IsLedTo s (λ x. A x ⊎ B x) y → IsLedTo s A y ⊎ IsLedTo s B y
  led_either A B h =
      let (r, rest) = led_chain s (λ x. A x ⊎ B x) h in
      ⊎_elim (λ a. inl (chain_led s A a rest.1)) (λ b. inr (chain_led s B b rest.1)) rest.0

  never_led : {y : Id} → IsLedTo s (λ _. ⊥) y → ⊥
  never_led h = (led_chain s (λ _. ⊥) h).1.0

  module _ (n : ℕ) where
    older_or : (o : Option (Object Id)) (x : Id) → get s.objects x.0 ≡ o → IsSome o
        → IsOlder n s x ⊎ IsCondemned (scene_of s).object n x
    older_or None x e h =
        inr (record {
          object = ap is_some e ∙ h;
          young = subst (λ (q : Option (Object Id)). generation_in q ≤ n) (sym e) (omega arith);
        })
    older_or (Some object) x e h =
        ⊎_elim (λ above. inl (record { object = object; is_stored = e; above = above }))
        (λ low. inr (record {
          object = ap is_some e;
          young = subst (λ (q : Option (Object Id)). generation_in q ≤ n) (sym e) low;
        }))
        (cases_lt n object.generation)

    -- an object is older or condemned, and not both
    pub older_or_condemned : (x : Id) → is_object (scene_of s).object x ≡ true
        → IsOlder n s x ⊎ IsCondemned (scene_of s).object n x
    older_or_condemned x h = older_or (get s.objects x.0) x refl h

    pub never_both : (x : Id) → IsOlder n s x → IsCondemned (scene_of s).object n x → ⊥
    never_both x old young =
        let low : generation_in (get s.objects x.0) ≤ n = young.young in
        let same : generation_in (get s.objects x.0) ≡ old.object.generation =
        ap generation_in old.is_stored in
        let high : n < old.object.generation = old.above in
        omega arith

    older_above : (x : Id) → n < generation_at (scene_of s).object x → (o : Option (Object Id))
        → get s.objects x.0 ≡ o → IsOlder n s x
    older_above x l None e =
        let low : n < generation_in {N = Id} None =
        subst (λ (q : Option (Object Id)). n < generation_in q) e l in absurd (omega arith)
    older_above x l (Some object) e = record {
      object = object;
      is_stored = e;
      above = subst (λ (q : Option (Object Id)). n < generation_in q) e l;
    }

    module _ (w : IsWhole (scene_of s)) (ages : List ℕ)
        (sound : HasSoundAges (scene_of s).object (scene_of s).handle ages) (S : Id → Type 0)
        (is_stored : (x : Id) → S x → is_object (scene_of s).object x ≡ true) where
      -- more starts, and the starts of the marking
      abbrev Begins : Id → Type 0
      Begins x = (IsUsed s x ⊎ IsOlder n s x) ⊎ S x

      abbrev Marks : Id → Type 0
      Marks x = IsMarked ages n s (λ y. IsDueRoot ages n s y ⊎ S y) x

      abbrev IsFound : Id → Type 0
      IsFound x = IsOlder n s x ⊎ Marks x

      -- what a root or a start references is older or marked
      found_start : (x : Id) → is_object (scene_of s).object x ≡ true → IsDueRoot ages n s x ⊎ S x → IsFound x
      found_start x h start =
          ⊎_elim (λ old. inl old) (λ young. inr (mark_start start young)) (older_or_condemned x h)

      undue_older : (x : Id) → n < generation_at (scene_of s).object x → IsFound x
      undue_older x l = inl (older_above x l (get s.objects x.0) refl)

      found_used : (x : Id) → IsUsed s x → IsFound x
      found_used x (in_register c d e) = found_start x (w.named x (register_named s c d x e))
          (inl (due_register c d e))
      found_used x (in_static k e) = found_start x (w.named x (static_named s k x e)) (inl (due_static k e))
      found_used x (in_queue h) = found_start x (w.queue x h) (inl (due_queue h))
      found_used x (by_handle slot h is holding e) =
          ⊎_elim
          (λ due. found_start x (w.targets slot h x is e)
          (inl (due_holder slot h (record { is_stored = is; due = due }) holding e)))
          (λ undue. undue_older x
          (undue_target (scene_of s).object n (scene_of s).handle ages sound slot h is undue x e))
          (cases_Bool (is_due ages n slot))

      -- along a field
      found_field : (x y : Id) → IsFound x → (object : Object Id) (i : ℕ) → get s.objects x.0 ≡ Some object
          → field_of object i ≡ Some y → IsFound y
      found_field x y found object i is e =
          ⊎_elim (λ old. inl old)
          (λ young. ⊎_elim
          (λ old. inr (mark_start (inl (older_field x (again old) i e)) young))
          (λ marked. inr (mark_field marked object i is e young)) found)
          (older_or_condemned y (w.fields x y (field_in s x.0 object i y is e)))
        where
          again : IsOlder n s x → IsOlder n s x
          again old = record {
            object = object;
            is_stored = is;
            above = subst (λ (q : Option (Object Id)). n < generation_in q)
                (sym old.is_stored ∙ is) old.above;
          }

      -- along a dependent handle
      found_secondary : (x y : Id) → IsFound x → (slot : ℕ) (h : Handle Id) → row_of s slot ≡ Some h
          → h.kind ≡ kind.Dependent → h.target ≡ Some x → secondary_of h.extra ≡ Some y → IsFound y
      found_secondary x y found slot h is dependent target second =
          ⊎_elim
          (λ due. ⊎_elim (λ old. inl old)
          (λ young. ⊎_elim
          (λ old. inr (mark_start (inl (older_target x old slot h (record { is_stored = is; due = due })
          dependent target second)) young))
          (λ marked. inr (mark_secondary marked slot h (record { is_stored = is; due = due }) dependent target
          second young)) found)
          (older_or_condemned y (w.secondaries slot h y is second)))
          (λ undue. undue_older y
          (undue_secondary (scene_of s).object n (scene_of s).handle ages sound slot h is undue y second))
          (cases_Bool (is_due ages n slot))

      pub led_found : {y : Id} → IsLedTo s Begins y → IsFound y
      led_found (from_start {x} h) =
          ⊎_elim (λ root. ⊎_elim (λ used. found_used x used) (λ old. inl old) root)
          (λ start. found_start x (is_stored x start) (inr start)) h
      led_found (by_field {x} {y} chain object i is e) = found_field x y (led_found chain) object i is e
      led_found (by_dependent {x} {y} chain slot h is dependent target second) =
          found_secondary x y (led_found chain) slot h is dependent target second

      -- and what is marked is led to
      root_led : (x : Id) → IsDueRoot ages n s x → IsLedTo s Begins x
      root_led x (due_register c d e) = from_start (inl (inl (in_register c d e)))
      root_led x (due_static k e) = from_start (inl (inl (in_static k e)))
      root_led x (due_queue h) = from_start (inl (inl (in_queue h)))
      root_led x (due_holder slot h due holding e) =
          from_start (inl (inl (by_handle slot h due.is_stored holding e)))
      root_led x (older_field y old i e) = by_field (from_start (inl (inr old))) old.object i old.is_stored e
      root_led x (older_target y old slot h due dependent target second) =
          by_dependent (from_start (inl (inr old))) slot h due.is_stored dependent target second

      pub marked_led : {y : Id} → Marks y → IsLedTo s Begins y
      marked_led (mark_start {x} h young) =
          ⊎_elim (λ root. root_led x root) (λ start. from_start (inr start)) h
      marked_led (mark_field chain object i is e young) = by_field (marked_led chain) object i is e
      marked_led (mark_secondary chain slot h due dependent target second young) =
          by_dependent (marked_led chain) slot h due.is_stored dependent target second

      pub condemned_marked : (x : Id) → IsCondemned (scene_of s).object n x → IsLedTo s Begins x → Marks x
      condemned_marked x young led =
          ⊎_elim (λ old. absurd (never_both x old young)) (λ marked. marked) (led_found led)

-- marks from fewer starts
pub marked_like : (ages : List ℕ) (n : ℕ) (s : State) (A B : Id → Type 0) → ((x : Id) → A x → B x) → {y : Id}
    → IsMarked ages n s A y → IsMarked ages n s B y
marked_like ages n s A B turn (mark_start {x} h young) = mark_start (turn x h) young
marked_like ages n s A B turn (mark_field chain object i is e young) =
    mark_field (marked_like ages n s A B turn chain) object i is e young
marked_like ages n s A B turn (mark_secondary chain slot h due dependent target second young) =
    mark_secondary (marked_like ages n s A B turn chain) slot h due dependent target second young

module _ (n : ℕ) (s t : State) (r : Report) (w : IsWhole (scene_of s))
    (did : CollectsState n s t r) (ages : List ℕ)
    (sound : HasSoundAges (scene_of s).object (scene_of s).handle ages) where
  abbrev c : Collects (λ (x : Id). x.0) n (scene_of s) (scene_of t) r
  c = did.scene

  abbrev Roots : Id → Type 0
  Roots x = IsUsed s x ⊎ IsOlder n s x

  used_marked : (x : Id) → IsCondemned (scene_of s).object n x → IsInUse n s x
      → IsMarked ages n s (IsDueRoot ages n s) x
  used_marked x young used =
      marked_like ages n s (λ y. IsDueRoot ages n s y ⊎ ⊥) (IsDueRoot ages n s)
      (λ y. ⊎_elim (λ root. root) (λ never. absurd never))
      (condemned_marked s n w ages sound (λ _. ⊥) (λ y never. absurd never) x young
      (led_like s Roots (λ y. Roots y ⊎ ⊥) (λ y h. inl h) used))

  marked_used : (x : Id) → IsMarked ages n s (IsDueRoot ages n s) x → IsInUse n s x
  marked_used x marked =
      ⊎_elim (λ used. used) (λ never. absurd (never_led s never))
      (led_either s Roots (λ _. ⊥)
      (marked_led s n w ages sound (λ _. ⊥) (λ y never. absurd never)
      (marked_like ages n s (IsDueRoot ages n s) (λ y. IsDueRoot ages n s y ⊎ ⊥) (λ y h. inl h) marked)))

  undue_row : (slot : ℕ) → is_due ages n slot ≡ false → (h : Handle Id) → row_of s slot ≡ Some h
      → cleared c.reach c.kept h ≡ h
  undue_row slot undue h e =
      undue_stays (scene_of s).object n (scene_of s).handle ages sound slot h e undue
      c.reach c.kept (λ x l. (c.reach_is x).1 (root_reached n (scene_of s) x (older l)))
      (λ x l. keeps_root (λ (y : Id). y.0) n (scene_of s) (scene_of t) r w c x (older l))

  pub hides_nothing : ((slot : ℕ) → IsSome (get s.weak slot) → get s.handles slot ≡ None)
      → HidesNothing ages n s t
  hides_nothing apart = record {
    used = λ x young. (used_marked x young, marked_used x);
    kept = λ x young. (
      λ h. condemned_marked s n w ages sound (IsResurrected n s) (λ y v. ap is_some v.is_stored) x young
          (⊎_elim (λ used. led_like s Roots (λ y. Roots y ⊎ IsResurrected n s y) (λ y a. inl a) used)
          (λ rescued. led_like s (IsResurrected n s) (λ y. Roots y ⊎ IsResurrected n s y) (λ y a. inr a)
          rescued) h),
      λ marked. led_either s Roots (IsResurrected n s)
          (marked_led s n w ages sound (IsResurrected n s) (λ y v. ap is_some v.is_stored) marked),
    );
    handles = λ slot undue. did.handles slot
        ∙ handle_left s c.reach c.kept slot (undue_row slot undue) (get s.handles slot) refl;
    weak = λ slot undue. did.weak slot
        ∙ weak_left s c.reach c.kept slot (undue_row slot undue) (apart slot) (get s.weak slot) refl;
  }

pub ages_hide_nothing : AgesHideNothing
ages_hide_nothing m n s t r ages h sound =
    hides_nothing n s t r (whole_scene m s h.well_formed) h.collects ages sound h.well_formed.weak.apart
