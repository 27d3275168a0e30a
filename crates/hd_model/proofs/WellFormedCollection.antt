-- A collection keeps a state well formed.
use Rattle.hd_model.proofs.Basics.{AllPairs, Bool, CollectsState, Contains, FIELDS, FitsKind, Handle, HasHandles, HasObjects, HasSerials, HasShape, HasWeakTable, Id, IsReached, IsSome, IsToBeFinalized, IsWellFormed, IsWhole, List, None, Numbers, Object, Option, ROWS, Report, Slot, Some, State, WeakEntry, [], ap, arith, cleared, cond, false, get, get_or, handles_of, held, is_pinned, is_some, length, nat_tests, none-some, option_map, queued, raised, refl, scene_of, subst, survivor, swept, sym, true, true≢false, use_of, ℕ, ◌%◌, ◌/◌, ◌<◌, ◌^◌, ◌∙◌, ◌≡◌, ◌≢◌, ◌≤◌}
use Rattle.hd_model.proofs.{Members.pairs_append, Members.pairs_like, MapEntries.some_value, KindExtras.cleared_fits, PinTest.pinned_decides, PinTest.pinned_held, WeakSlots.handle_row, WeakSlots.held_row, WholeScenes.whole_scene, WholeScenes.names_of_whole}
use Rattle.hd_model.proofs.SceneCollection.{root_reached, mapped_value, keeps_root, object_before, still_object, whole_after}

-- a raised generation is at most 2 where the one before was, and is not below it
pub raised_small : (n g : ℕ) → g ≤ 2 → raised n g ≤ 2
raised_small n g l = grind (arith, nat_tests)

-- what a test lets through
passed : {A : Type 0} (b : Bool) (o : Option A) → IsSome (cond b o None) → (b ≡ true) × IsSome o
passed true o h = (refl, h)
passed false o h = absurd (true≢false (sym h))

module _ (n : Numbers) (k : ℕ) (s t : State) (r : Report) (w : IsWellFormed n s)
    (c : CollectsState k s t r) where
  rank : Id → ℕ
  rank x = x.0

  before : (id : ℕ) (o : Object Id) → get t.objects id ≡ Some o → (c.scene.kept (record { 0 = id }) ≡ true)
      × ((p : Object Id) × ((get s.objects id ≡ Some p)
      × (survivor k (c.scene.resurrected (record { 0 = id })) p ≡ o)))
  before id o e = object_before (λ (x : Id). x.0) k (scene_of s) (scene_of t) r (whole_scene n s w) c.scene
      (record { 0 = id }) o e

  was_object : (id : ℕ) → IsSome (get t.objects id) → IsSome (get s.objects id)
  was_object id h =
      let (o, e) = some_value (get t.objects id) h in let (p, both) = (before id o e).1 in ap is_some both.0

  pinned_stays : (id : ℕ) → IsSome (get t.pinned id) → IsSome (get t.objects id)
  pinned_stays id h =
      let (pinning, address) = passed (is_pinned s.handles id) (get s.pinned id)
      (subst IsSome (c.pinned id) h) in
      let x : Id = record { 0 = id } in
      still_object (λ (y : Id). y.0) k (scene_of s) (scene_of t) r (whole_scene n s w) c.scene x
      (keeps_root (λ (y : Id). y.0) k (scene_of s) (scene_of t) r (whole_scene n s w) c.scene x
      (held (held_row s x (pinned_held
      (λ slot. get s.handles slot) x ((pinned_decides s.handles x).0 pinning)))))

  queued_apart : AllPairs (λ x y. x ≢ y) t.queue
  queued_apart =
      let is_queued : (x : Id) → Contains s.queue x
      → IsReached (scene_of s) k x = λ x h. root_reached k (scene_of s) x (queued h) in
      subst (λ xs. AllPairs (λ x y. x ≢ y) xs) (sym c.scene.queue)
      (pairs_append (λ x y. x ≢ y) s.queue c.scene.joins w.objects.queued_once
      (pairs_like (λ (x y : Id). x.0 < y.0) (λ x y. x ≢ y) c.scene.joins
      (λ x y low same. let tied : x.0 ≡ y.0 = ap (λ (z : Id). z.0) same in absurd (omega arith))
      c.scene.rising)
      (λ x y in_queue joins same. let lost : IsToBeFinalized (scene_of s) k y =
      (c.scene.resurrected_is y).0 ((c.scene.joins_are y).1 joins) in
      lost.lost (subst (λ z. IsReached (scene_of s) k z) same (is_queued x in_queue))))

  shape_after : HasShape n t
  shape_after = record {
    registers = ap length c.registers ∙ w.shape.registers;
    each_registers = λ d l. ap (λ (rows : List (List (Option Id))). length (get_or rows d [])) c.registers
        ∙ w.shape.each_registers d l;
    handle_registers = ap length c.handle_registers ∙ w.shape.handle_registers;
    each_handle_registers = λ d l. ap
        (λ (rows : List (List (Option Slot))). length (get_or rows d [])) c.handle_registers
        ∙ w.shape.each_handle_registers d l;
    statics = ap length c.statics ∙ w.shape.statics;
    board = ap length c.board ∙ w.shape.board;
    serials = ap length c.serials ∙ w.shape.serials;
  }

  objects_after : HasObjects t
  objects_after = record {
    sizes = λ id o e.
        let (p, both) = (before id o e).1 in
        subst (λ (q : Object Id). length q.fields ≤ FIELDS) both.1 (w.objects.sizes id p both.0);
    generations = λ id o e.
        let (p, both) = (before id o e).1 in
        subst (λ (q : Object Id). q.generation ≤ 2) both.1
        (raised_small k p.generation (w.objects.generations id p both.0));
    queued_once = queued_apart;
  }

  serials_after : HasSerials t
  serials_after = record {
    from_one = λ id h. w.serials.from_one id (was_object id h);
    to_last = λ id h. subst (λ xs. id % 2 ^ 32 ≤ get_or xs (id / 2 ^ 32) 0) (sym c.serials)
        (w.serials.to_last id (was_object id h));
    limit = λ d. subst (λ xs. get_or xs d 0 < 2 ^ 32) (sym c.serials) (w.serials.limit d);
  }

  whole : IsWhole (scene_of t)
  whole = whole_after (λ (x : Id). x.0) k (scene_of s) (scene_of t) r (whole_scene n s w) c.scene

  was_handle : (slot : ℕ) (h : Handle Id) → get t.handles slot ≡ Some h
      → (g : Handle Id) × ((get s.handles slot ≡ Some g) × (cleared c.scene.reach c.scene.kept g ≡ h))
  was_handle slot h e =
      mapped_value (cleared c.scene.reach c.scene.kept) (get s.handles slot) h (sym (c.handles slot) ∙ e)

  was_weak : (slot : ℕ) → IsSome (get t.weak slot) → IsSome (get s.weak slot)
  was_weak slot h =
      let (content, e) = some_value (get t.weak slot) h in
      ap is_some (mapped_value (swept c.scene.kept) (get s.weak slot) content (sym (c.weak slot) ∙ e)).1.0

  -- an entry after the collection was there before it
  entry_from : (kept : Id → Bool) (content : Option (WeakEntry Id)) (e : WeakEntry Id)
      → swept kept content ≡ Some e → content ≡ Some e
  entry_from kept None e h = absurd (none-some e h)
  entry_from kept (Some x) e h = by (kept x.key) h
    where
      by : (b : Bool) → cond b (Some x) None ≡ Some e → Some x ≡ Some e
      by true is = is
      by false is = absurd (none-some e is)

  pub was_entry : (slot : ℕ) (e : WeakEntry Id) → get t.weak slot ≡ Some (Some e)
      → get s.weak slot ≡ Some (Some e)
  was_entry slot e is =
      let (content, both) = mapped_value (swept c.scene.kept) (get s.weak slot) (Some e)
      (sym (c.weak slot) ∙ is) in
      both.0 ∙ ap Some (entry_from c.scene.kept content e both.1)

  apart_after : (slot : ℕ) → IsSome (get t.weak slot) → get t.handles slot ≡ None
  apart_after slot h =
      c.handles slot ∙ ap (option_map (cleared c.scene.reach c.scene.kept)) (w.weak.apart slot
      (was_weak slot h))

  weak_after : HasWeakTable t
  weak_after = record {
    kinds = λ slot h. ap (λ m. get m (slot / ROWS)) c.blocks ∙ w.weak.kinds slot (was_weak slot h);
    apart = apart_after;
    once = λ i j d e at_i at_j same. w.weak.once i j d e (was_entry i d at_i) (was_entry j e at_j) same;
  }

  handles_after : HasHandles n t
  handles_after = record {
    kinds = λ slot h e.
        let (g, both) = was_handle slot h e in
        subst (λ (q : Handle Id). use_of t (slot / ROWS) ≡ Some (handles_of q.kind)) both.1
        (ap (λ m. get m (slot / ROWS)) c.blocks ∙ w.handles.kinds slot g both.0);
    extras = λ slot h e.
        let (g, both) = was_handle slot h e in
        subst (λ (q : Handle Id). FitsKind q.kind q.extra) both.1
        (cleared_fits g.kind g.extra _ (w.handles.extras slot g both.0));
    dependents = λ slot h e none. whole.paired slot h (handle_row t slot h e) none;
    blocks = λ block h. w.handles.blocks block (subst (λ m. IsSome (get m block)) c.blocks h);
  }

  pub collection_keeps_well_formed : IsWellFormed n t
  collection_keeps_well_formed = record {
    shape = shape_after;
    names = names_of_whole t whole apart_after pinned_stays;
    objects = objects_after;
    serials = serials_after;
    handles = handles_after;
    weak = weak_after;
  }
