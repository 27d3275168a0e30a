-- A collection that condemns no object forgets pinned addresses alone.
use Rattle.hd_model.proofs.Basics.{Bool, CollectsState, Counts, Decides, Handle, IsKept, IsReached, IsRemoved, IsSurviving, IsWellFormed, LosesAs, None, Numbers, Object, Option, Role, Some, State, [], ap, append-nil, arith, attaches, cleared, cond, false, false≢true, generation_in, get, is_lost, is_pinned, is_some, long, loses, nat_le, nat_tests, not, older, option_map, refl, role, scene_of, short, subst, survivor, sym, true, ℕ, ◌&&◌, ◌<◌, ◌∙◌, ◌≡◌, ◌≢◌, ◌≤◌}
use Rattle.std.specs.Option.{option_map_or}
use Rattle.hd_model.proofs.IdleCollection.{attaching_lost, cleared_same, kept_target, loses_none, raised_older}
use Rattle.hd_model.proofs.Members.{not_in_none, pairs_none}
use Rattle.hd_model.proofs.PropertyCounts.{counts_none}
use Rattle.hd_model.proofs.SceneCollection.{kept_object, reached_kept, reached_object, root_reached}
use Rattle.hd_model.proofs.WeakSlots.{handle_left, weak_left}
use Rattle.hd_model.proofs.WholeScenes.{whole_scene}
use Rattle.hd_model.specs.declared.data.Id.{Id}
use Rattle.hd_plain.specs.Collecting.{id_of}
use Rattle.hd_plain.specs.Inside.{is_woken, wakes}
use Rattle.hd_maps.specs.StoredObjects.{AreFrom}
use Rattle.hd_plain.proofs.CollectedState.{collected}

module _ (n : ℕ) (m : Numbers) (s : State) (w : IsWellFormed m s) (g : ℕ) (from : AreFrom g s.objects)
    (high : n < g) where
  -- whether there is an object
  abbrev has : Id → Bool
  has x = is_some (get s.objects x.0)

  all_reached : (x : Id) → has x ≡ true → IsReached (scene_of s) n x
  all_reached x h = by (get s.objects x.0) refl h
    where
      by : (o : Option (Object Id)) → get s.objects x.0 ≡ o → is_some o ≡ true → IsReached (scene_of s) n x
      by None e some = absurd (false≢true some)
      by (Some o) e some =
          root_reached n (scene_of s) x (older (subst (λ q. n < generation_in q) (sym e)
          (let low = from x.0 o e in omega (arith, low, high))))

  reach_is : (x : Id) → Decides (has x) (IsReached (scene_of s) n x)
  reach_is x = (λ h. all_reached x h, λ h. reached_object n (scene_of s) (whole_scene m s w) x h)

  kept_is : (x : Id) → Decides (has x) (IsKept (scene_of s) n x)
  kept_is x = (
    λ h. reached_kept n (scene_of s) x (all_reached x h),
    λ h. kept_object n (scene_of s) (whole_scene m s w) x h,
  )

  none_young : (o : Object Id) → n < o.generation → nat_le o.generation n ≡ false
  none_young o l = grind (arith, nat_tests)

  never_wakes : (reached : Bool) (o : Object Id) → n < o.generation → wakes n reached o ≡ false
  never_wakes reached o l =
      ap (λ b. o.registered && (b && not reached)) (none_young o l) ∙ never o.registered
    where
      never : (b : Bool) → (b && false) ≡ false
      never true = refl
      never false = refl

  stays_registered : (b : Bool) → (b && not false) ≡ b
  stays_registered true = refl
  stays_registered false = refl

  object_stays : (k : ℕ) (o : Option (Object Id)) → get s.objects k ≡ o
      → o ≡ cond (is_some o) (option_map (λ (x : Object Id). survivor n (wakes n (has (id_of k)) x) x) o) None
  object_stays k None e = refl
  object_stays k (Some o) e =
      let l : n < o.generation = let low = from k o e in omega (arith, low, high) in
      λ i. Some (record {
        fields = o.fields;
        value = o.value;
        generation = sym (raised_older n o.generation l) i;
        registered = sym (ap (λ b. o.registered && not b) (never_wakes (has (id_of k)) o l)
            ∙ stays_registered o.registered) i;
      })

  woken_none : (k : ℕ) (o : Option (Object Id)) → get s.objects k ≡ o
      → option_map_or (wakes n (has (id_of k))) o false ≡ false
  woken_none k None e = refl
  woken_none k (Some o) e =
      never_wakes (has (id_of k)) o (let low = from k o e in omega (arith, low, high))

  never_woken : (x : Id) → is_woken n has s.objects x.0 ≡ true → ⊥
  never_woken x h = false≢true (sym (woken_none x.0 (get s.objects x.0) refl) ∙ h)

  row_loses_none : (slot : ℕ) (h : Handle Id) → (scene_of s).handle slot ≡ Some h → loses has has h ≡ false
  row_loses_none slot h e =
      let whole = whole_scene m s w in
      loses_none (role h) has has h.target (λ x t. whole.targets slot h x e t)
      (λ x t. whole.targets slot h x e t)

  row_stays : (slot : ℕ) (h : Handle Id) → (scene_of s).handle slot ≡ Some h → cleared has has h ≡ h
  row_stays slot h e =
      let whole = whole_scene m s w in
      cleared_same has has h (row_loses_none slot h e)
      (attaching_lost (role h) (is_lost has h.target)
      (kept_target has h.target (λ x t. whole.targets slot h x e t)))

  loses_never : (wanted : Role) → Counts (LosesAs (scene_of s) has has wanted) 0
  loses_never wanted =
      counts_none (LosesAs (scene_of s) has has wanted)
      (λ slot l. false≢true (sym (row_loses_none slot l.handle l.is_stored) ∙ l.loses))

  survives_never : (x : Id) → IsSurviving n (scene_of s) has x → ⊥
  survives_never x v = by (get s.objects x.0) refl v.condemned.object v.condemned.young
    where
      by : (o : Option (Object Id)) → get s.objects x.0 ≡ o → is_some o ≡ true → generation_in o ≤ n → ⊥
      by None e some young = false≢true some
      by (Some o) e some young = let low = from x.0 o e in absurd (omega (arith, low, high, young))

  pub idle : (t : State) → ((k : ℕ) → get t.pinned k ≡ cond (is_pinned s.handles k) (get s.pinned k) None)
      → t ≡ record s { pinned = t.pinned }
      → CollectsState n s t (record { kept = 0; removed = 0; short = 0; long = 0; dep = 0; revived = 0 })
  idle t pinned rest =
      collected n has has s reach_is kept_is []
      (record {
        apart = pairs_none (λ x y. x ≢ y);
        each = λ k h. absurd (not_in_none k h);
        all = λ k h. absurd (never_woken (id_of k) h);
      })
      (pairs_none (λ x y. x < y)) _
      (record {
        kept = counts_none (IsSurviving n (scene_of s) has) survives_never;
        removed = counts_none (IsRemoved (scene_of s) has)
            (λ x r. false≢true (sym r.lost ∙ r.object));
        short = loses_never short;
        long = loses_never long;
        dep = loses_never attaches;
        resurrected = counts_none (λ x. is_woken n has s.objects x.0 ≡ true) never_woken;
      })
      t
      (record {
        objects = λ k. ap (λ (q : State). get q.objects k) rest ∙ object_stays k (get s.objects k) refl;
        handles = λ slot. ap (λ (q : State). get q.handles slot) rest
            ∙ sym (handle_left s has has slot (λ h e. row_stays slot h e) (get s.handles slot) refl);
        weak = λ slot. ap (λ (q : State). get q.weak slot) rest
            ∙ sym (weak_left s has has slot (λ h e. row_stays slot h e) (w.weak.apart slot)
            (get s.weak slot) refl);
        pinned = pinned;
        rest = rest ∙ (λ i. record s {
          objects = sym (ap (λ (q : State). q.objects) rest) i;
          handles = sym (ap (λ (q : State). q.handles) rest) i;
          weak = sym (ap (λ (q : State). q.weak) rest) i;
          pinned = t.pinned;
          queue = sym (append-nil s.queue) i;
        });
      })
