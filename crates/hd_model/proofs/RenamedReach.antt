-- A scene read under other names has the same reach, and keeps and resurrects the same objects.
use Rattle.hd_model.proofs.Basics.{Contains, Extra, Handle, IsAttached, IsEdge, IsField, IsKept, IsReached, IsReading, IsRoot, IsToBeFinalized, IsWhole, Leads, None, Object, Option, Scene, Some, ap, arith, attaches, count, fields_in, generation_at, generation_in, held, holds, inl, inr, is_object, is_some, named, nothing, older, option_map, queued, refl, rename_extra, rename_handle, rename_object, role, secondary, secondary_of, strength, subst, sym, true, ℕ, ⊎_elim, ◌<◌, ◌∙◌, ◌≡◌, ◌≤◌, ◌⊎◌, List, map}
use Rattle.hd_model.proofs.{RenamedPins.role_renamed, EdgeChains.leads_turn, EdgeChains.leads_lift, Members.mapped_in, Members.mapped_from, MapEntries.some_value}
use Rattle.hd_model.specs.Anchors.{IsAnchor, in_static, in_queue, by_handle}
use Rattle.hd_model.proofs.AnchorChains.{anchor_root, root_anchor}
use Rattle.hd_model.proofs.SceneCollection.{mapped_value, root_object, edge_object, reached_object}

-- a secondary is renamed as a target is
pub secondary_renamed : {N M : Type 0} (f : N → M) (e : Extra N)
    → secondary_of (rename_extra f e) ≡ option_map f (secondary_of e)
secondary_renamed f nothing = refl
secondary_renamed f (strength given) = refl
secondary_renamed f (secondary o) = refl
secondary_renamed f (count c) = refl

module _ {N M : Type 0} (f : N → M) (s : Scene N) (t : Scene M) (g : IsReading f s t) where
  -- an object of s, as it is in t
  pub object_read : (x : N) (o : Object N) → s.object x ≡ Some o → t.object (f x) ≡ Some (rename_object f o)
  object_read x o e = g.objects x (ap is_some e) ∙ ap (option_map (rename_object f)) e

  pub object_unread : (x : N) (p : Object M) → is_object s.object x ≡ true → t.object (f x) ≡ Some p
      → (o : Object N) × ((s.object x ≡ Some o) × (rename_object f o ≡ p))
  object_unread x p h e = mapped_value (rename_object f) (s.object x) p (sym (g.objects x h) ∙ e)

  pub is_object_read : (x : N) → is_object s.object x ≡ true → is_object t.object (f x) ≡ true
  is_object_read x h = let (o, e) = some_value (s.object x) h in ap is_some (object_read x o e)

  pub generation_read : (x : N) → is_object s.object x ≡ true
      → generation_at t.object (f x) ≡ generation_at s.object x
  generation_read x h =
      let (o, e) = some_value (s.object x) h in ap generation_in (object_read x o e)
      ∙ sym (ap generation_in e)

  pub handle_read : (slot : ℕ) (h : Handle N) → s.handle slot ≡ Some h
      → t.handle slot ≡ Some (rename_handle f h)
  handle_read slot h e = g.handles slot ∙ ap (option_map (rename_handle f)) e

  pub handle_unread : (slot : ℕ) (h : Handle M) → t.handle slot ≡ Some h → (o : Handle N)
      × ((s.handle slot ≡ Some o) × (rename_handle f o ≡ h))
  handle_unread slot h e = mapped_value (rename_handle f) (s.handle slot) h (sym (g.handles slot) ∙ e)

module _ {N M : Type 0} (f : N → M) (n : ℕ) (s : Scene N) (t : Scene M) (w : IsWhole s)
    (g : IsReading f s t) where
  -- anchors, roots and edges of s are those of t
  pub anchor_read : (xs : List (Option N)) (x : N) → IsAnchor xs s x
      → IsAnchor (map (option_map f) xs) t (f x)
  anchor_read xs x (in_static h) = in_static (mapped_in (option_map f) xs (Some x) h)
  anchor_read xs x (in_queue h) =
      in_queue (subst (λ ys. Contains ys (f x)) (sym g.queue) (mapped_in f s.queue x h))
  anchor_read xs x (by_handle h) = by_handle (record {
    slot = h.slot;
    handle = rename_handle f h.handle;
    is_stored = handle_read f s t g h.slot h.handle h.is_stored;
    holds = role_renamed f h.handle.kind h.handle.extra ∙ h.holds;
    target = ap (option_map f) h.target;
  })

  root_read : (x : N) → IsRoot s n x → IsRoot t n (f x)
  root_read x h =
      ⊎_elim
      (λ a. anchor_root n (λ y. subst (λ xs. Contains xs (Some y)) (sym g.named)) (anchor_read s.named x a))
      (λ l. older (subst (λ k. n < k) (sym (generation_read f s t g x (root_object n s w x h))) l))
      (root_anchor n h)

  field_read : (x y : N) → is_object s.object x ≡ true → IsField s.object x y → IsField t.object (f x) (f y)
  field_read x y h c =
      let (o, e) = some_value (s.object x) h in
      subst (λ (q : Option (Object M)). Contains (fields_in q) (Some (f y))) (sym (object_read f s t g x o e))
      (mapped_in (option_map f) o.fields (Some y)
      (subst (λ (q : Option (Object N)). Contains (fields_in q) (Some y)) e c))

  attached_read : (x y : N) → IsAttached s.handle x y → IsAttached t.handle (f x) (f y)
  attached_read x y a = record {
    slot = a.slot;
    handle = rename_handle f a.handle;
    is_stored = handle_read f s t g a.slot a.handle a.is_stored;
    attaches = role_renamed f a.handle.kind a.handle.extra ∙ a.attaches;
    target = ap (option_map f) a.target;
    secondary = secondary_renamed f a.handle.extra ∙ ap (option_map f) a.secondary;
  }

  pub edge_read : (x y : N) → is_object s.object x ≡ true → IsEdge s.object s.handle x y
      → IsEdge t.object t.handle (f x) (f y)
  edge_read x y h a = ⊎_elim (λ c. inl (field_read x y h c)) (λ d. inr (attached_read x y d)) a

  chain_read : {x y : N} → is_object s.object x ≡ true → Leads (IsEdge s.object s.handle) x y
      → Leads (IsEdge t.object t.handle) (f x) (f y)
  chain_read h chain =
      (leads_turn (IsEdge s.object s.handle) (IsEdge t.object t.handle) f (λ x. is_object s.object x ≡ true)
      (λ x y k a. edge_object n s w x y a) edge_read h chain).1

  -- and back: a root of t is the new name of one, and an edge in t from an object of s is one of s
  abbrev pub Called : (N → Type 0) → M → Type 0
  Called P b = (x : N) × ((is_object s.object x ≡ true) × (P x × (f x ≡ b)))

  pub anchor_unread : (xs : List (Option N)) → ((x : N) → Contains xs (Some x) → is_object s.object x ≡ true)
      → (b : M) → IsAnchor (map (option_map f) xs) t b → Called (IsAnchor xs s) b
  anchor_unread xs objects b (in_static h) =
      let (o, rest) = mapped_from (option_map f) xs (Some b) h in
      let (x, both) = mapped_value f o b rest.1 in
      let c = subst (λ q. Contains xs q) both.0 rest.0 in
      (x, (objects x c, (in_static c, both.1)))
  anchor_unread xs objects b (in_queue h) =
      let (x, rest) = mapped_from f s.queue b (subst (λ ys. Contains ys b) g.queue h) in
      (x, (w.queue x rest.0, (in_queue rest.0, rest.1)))
  anchor_unread xs objects b (by_handle h) =
      let (o, both) = handle_unread f s t g h.slot h.handle h.is_stored in
      let (x, at) = mapped_value f o.target b (ap (λ (q : Handle M). q.target) both.1 ∙ h.target) in
      let holding : role o ≡ holds = sym (role_renamed f o.kind o.extra)
      ∙ ap (λ (q : Handle M). role q) both.1 ∙ h.holds in (
        x,
        (
          w.targets h.slot o x both.0 at.0,
          (
            by_handle (record {
              slot = h.slot;
              handle = o;
              is_stored = both.0;
              holds = holding;
              target = at.0;
            }),
            at.1,
          ),
        ),
      )

  root_unread : (b : M) → IsRoot t n b → Called (IsRoot s n) b
  root_unread b h =
      ⊎_elim
      (λ a. let (x, rest) = anchor_unread s.named w.named b (subst (λ xs. IsAnchor xs t b) g.named a) in
      (x, (rest.0, (anchor_root n (λ y c. c) rest.1.0, rest.1.1))))
      (λ l. let (x, rest) = g.only b (object_older (t.object b) l) in (
        x,
        (
          rest.0,
          (
            older (subst (λ k. n < k)
                (sym (ap (generation_at t.object) rest.1) ∙ generation_read f s t g x rest.0) l),
            rest.1,
          ),
        ),
      ))
      (root_anchor n h)
    where
      object_older : (o : Option (Object M)) → n < generation_in o → is_some o ≡ true
      object_older None l = absurd (omega arith)
      object_older (Some o) l = refl

  pub edge_unread : (x : N) (b : M) → is_object s.object x ≡ true → IsEdge t.object t.handle (f x) b
      → (y : N) × ((is_object s.object y ≡ true) × (IsEdge s.object s.handle x y × (f y ≡ b)))
  edge_unread x b h a = ⊎_elim by_field by_handle a
    where
      by_field : IsField t.object (f x) b → (y : N)
          × ((is_object s.object y ≡ true) × (IsEdge s.object s.handle x y × (f y ≡ b)))
      by_field c =
          let (o, e) = some_value (s.object x) h in
          let (v, rest) = mapped_from (option_map f) o.fields (Some b)
          (subst (λ (q : Option (Object M)). Contains (fields_in q) (Some b)) (object_read f s t g x o e) c)
          in
          let (y, both) = mapped_value f v b rest.1 in
          let field : IsField s.object x y =
          subst (λ (q : Option (Object N)). Contains (fields_in q) (Some y)) (sym e)
          (subst (λ q. Contains o.fields q) both.0 rest.0) in
          (y, (w.fields x y field, (inl field, both.1)))

      by_handle : IsAttached t.handle (f x) b → (y : N)
          × ((is_object s.object y ≡ true) × (IsEdge s.object s.handle x y × (f y ≡ b)))
      by_handle d =
          let (o, both) = handle_unread f s t g d.slot d.handle d.is_stored in
          let (z, at) = mapped_value f o.target (f x) (ap (λ (q : Handle M). q.target) both.1 ∙ d.target) in
          let (y, second) = mapped_value f (secondary_of o.extra) b
          (sym (secondary_renamed f o.extra) ∙ ap (λ (q : Handle M). secondary_of q.extra) both.1
          ∙ d.secondary) in
          let same : z ≡ x = g.apart z x (w.targets d.slot o z both.0 at.0) h at.1 in
          let attaching : role o ≡ attaches = sym (role_renamed f o.kind o.extra)
          ∙ ap (λ (q : Handle M). role q) both.1 ∙ d.attaches in (
            y,
            (
              w.secondaries d.slot o y both.0 second.0,
              (
                inr (record {
                  slot = d.slot;
                  handle = o;
                  is_stored = both.0;
                  attaches = attaching;
                  target = at.0 ∙ ap (λ v. Some v) same;
                  secondary = second.0;
                }),
                second.1,
              ),
            ),
          )

  pub reached_read : (x : N) → IsReached s n x → IsReached t n (f x)
  reached_read x h = (f h.0, (root_read h.0 h.1.0, chain_read (root_object n s w h.0 h.1.0) h.1.1))

  pub reached_unread : (b : M) → IsReached t n b → Called (IsReached s n) b
  reached_unread b h =
      let (r, rest) = root_unread h.0 h.1.0 in
      let (y, last) =
      leads_lift (IsEdge s.object s.handle) (IsEdge t.object t.handle) f
      (λ x. is_object s.object x ≡ true) edge_unread r rest.0 rest.1.1 h.1.1 in
      (y, (last.0, ((r, (rest.1.0, last.1.0)), last.1.1)))

  -- what holds of all with the name f x holds of x
  back : (P : N → Type 0) (x : N) → is_object s.object x ≡ true → Called P (f x) → P x
  back P x h c = subst P (g.apart c.0 x c.1.0 h c.1.1.1) c.1.1.0

  pub reached_same : (x : N) → is_object s.object x ≡ true → IsReached t n (f x) → IsReached s n x
  reached_same x h r = back (IsReached s n) x h (reached_unread (f x) r)

  pub resurrected_read : (x : N) → IsToBeFinalized s n x → IsToBeFinalized t n (f x)
  resurrected_read x v = record {
    object = rename_object f v.object;
    is_stored = object_read f s t g x v.object v.is_stored;
    registered = v.registered;
    young = v.young;
    lost = λ r. v.lost (reached_same x (ap is_some v.is_stored) r);
  }

  pub resurrected_same : (x : N) → is_object s.object x ≡ true → IsToBeFinalized t n (f x)
      → IsToBeFinalized s n x
  resurrected_same x h v =
      let (o, both) = object_unread f s t g x v.object h v.is_stored in record {
        object = o;
        is_stored = both.0;
        registered = ap (λ (p : Object M). p.registered) both.1 ∙ v.registered;
        young = subst (λ (p : Object M). p.generation ≤ n) (sym both.1) v.young;
        lost = λ r. v.lost (reached_read x r);
      }

  pub resurrected_unread : (b : M) → IsToBeFinalized t n b → Called (IsToBeFinalized s n) b
  resurrected_unread b v =
      let (x, rest) = g.only b (ap is_some v.is_stored) in
      (x, (rest.0, (resurrected_same x rest.0 (subst (IsToBeFinalized t n) (sym rest.1) v), rest.1)))

  start_unread : (b : M) → IsReached t n b ⊎ IsToBeFinalized t n b
      → Called (λ x. IsReached s n x ⊎ IsToBeFinalized s n x) b
  start_unread b h =
      ⊎_elim (λ r. let (x, rest) = reached_unread b r in (x, (rest.0, (inl rest.1.0, rest.1.1))))
      (λ v. let (x, rest) = resurrected_unread b v in (x, (rest.0, (inr rest.1.0, rest.1.1)))) h

  start_object : (x : N) → IsReached s n x ⊎ IsToBeFinalized s n x → is_object s.object x ≡ true
  start_object x h = ⊎_elim (reached_object n s w x) (λ (v : IsToBeFinalized s n x). ap is_some v.is_stored) h

  pub kept_read : (x : N) → IsKept s n x → IsKept t n (f x)
  kept_read x h = (
    f h.0,
    (
      ⊎_elim (λ r. inl (reached_read h.0 r)) (λ v. inr (resurrected_read h.0 v)) h.1.0,
      chain_read (start_object h.0 h.1.0) h.1.1,
    ),
  )

  pub kept_unread : (b : M) → IsKept t n b → Called (IsKept s n) b
  kept_unread b h =
      let (r, rest) = start_unread h.0 h.1.0 in
      let (y, last) =
      leads_lift (IsEdge s.object s.handle) (IsEdge t.object t.handle) f
      (λ x. is_object s.object x ≡ true) edge_unread r rest.0 rest.1.1 h.1.1 in
      (y, (last.0, ((r, (rest.1.0, last.1.0)), last.1.1)))

  pub kept_same : (x : N) → is_object s.object x ≡ true → IsKept t n (f x) → IsKept s n x
  kept_same x h k = back (IsKept s n) x h (kept_unread (f x) k)
