-- What a collection leaves of a whole scene: what is kept, and what the handles that stay reference.
use Rattle.hd_model.proofs.Basics.{Bool, Collects, Contains, Contains-append_cases, Extra, Handle, IsAttached, IsEdge, IsField, IsKept, IsReached, IsRoot, IsToBeFinalized, IsWhole, Leads, None, Object, Option, Report, Role, Scene, Some, ap, arith, attaches, cleared, cond, cond-false, cond-true, false, fields_in, generation_in, held, holds, inl, inr, is_attaching, is_lost, is_object, is_some, long, loses, loses_by, named, none-some, not-false, older, option_map, queued, refl, role, role_of, same_Some, secondary, secondary_of, short, subst, survivor, sym, true, ℕ, ⊎_elim, ◌&&◌, ◌<◌, ◌∙◌, ◌≡◌, ◌⊎◌}
use Rattle.hd_model.proofs.{Members.not_in_none, MapEntries.some_value}

-- a value that is left where a test passes was one that was there
pub left_from : {A B : Type 0} (b : Bool) (f : A → B) (o : Option A) (y : B)
    → cond b (option_map f o) None ≡ Some y → (b ≡ true) × ((x : A) × ((o ≡ Some x) × (f x ≡ y)))
left_from true f None y e = absurd (none-some y e)
left_from true f (Some x) y e = (refl, (x, (refl, same_Some _ _ e)))
left_from false f o y e = absurd (none-some y e)

pub mapped_value : {A B : Type 0} (f : A → B) (o : Option A) (y : B) → option_map f o ≡ Some y → (x : A)
    × ((o ≡ Some x) × (f x ≡ y))
mapped_value f None y e = absurd (none-some y e)
mapped_value f (Some x) y e = (x, (refl, same_Some _ _ e))

-- a target that is not lost is a member
pub not_lost : {N : Type 0} (p : N → Bool) (o : Option N) (x : N) → is_lost p o ≡ false → o ≡ Some x
    → p x ≡ true
not_lost p o x kept e = not-false (p x) (sym (ap (is_lost p) e) ∙ kept)

-- by its role, a handle that does not lose its target holds it, or its target is reached or kept
role_cases : {N : Type 0} (r : Role) (reach kept : N → Bool) (o : Option N) (x : N)
    → loses_by r reach kept o ≡ false → o ≡ Some x → (r ≡ holds) ⊎ ((reach x ≡ true) ⊎ (kept x ≡ true))
role_cases holds reach kept o x h e = inl refl
role_cases short reach kept o x h e = inr (inl (not_lost reach o x h e))
role_cases long reach kept o x h e = inr (inr (not_lost kept o x h e))
role_cases attaches reach kept o x h e = inr (inr (not_lost kept o x h e))

-- what a cleared handle references: only what was its target or its secondary
pub cleared_target : {N : Type 0} (reach kept : N → Bool) (h : Handle N) (x : N)
    → (cleared reach kept h).target ≡ Some x → (loses reach kept h ≡ false) × (h.target ≡ Some x)
cleared_target reach kept h x e = target_from (loses reach kept h) h.target e
  where
    target_from : (b : Bool) (o : Option _) → cond b None o ≡ Some x → (b ≡ false) × (o ≡ Some x)
    target_from true o e = absurd (none-some x e)
    target_from false o e = (refl, e)

secondary_from : {N : Type 0} (b : Bool) (e : Extra N) (y : N)
    → secondary_of (cond b (secondary None) e) ≡ Some y → (b ≡ false) × (secondary_of e ≡ Some y)
secondary_from true e y h = absurd (none-some y h)
secondary_from false e y h = (refl, h)

pub cleared_secondary : {N : Type 0} (reach kept : N → Bool) (h : Handle N) (y : N)
    → secondary_of (cleared reach kept h).extra ≡ Some y
    → ((is_attaching (role h) && is_lost kept h.target) ≡ false) × (secondary_of h.extra ≡ Some y)
cleared_secondary reach kept h y e =
    secondary_from (is_attaching (role h) && is_lost kept h.target) h.extra y e

-- where an attaching handle keeps its secondary, its target is not lost
attached_kept : (r : Role) (lost : Bool) → r ≡ attaches → (is_attaching r && lost) ≡ false → lost ≡ false
attached_kept r lost e h = sym (ap (λ q. is_attaching q && lost) e) ∙ h

-- a root is an object
module _ {N : Type 0} (n : ℕ) (s : Scene N) (w : IsWhole s) where
  some_older : (o : Option (Object N)) → n < generation_in o → is_some o ≡ true
  some_older None l = absurd (omega arith)
  some_older (Some o) l = refl

  pub root_object : (x : N) → IsRoot s n x → is_object s.object x ≡ true
  root_object x (named h) = w.named x h
  root_object x (queued h) = w.queue x h
  root_object x (held h) = w.targets h.slot h.handle x h.is_stored h.target
  root_object x (older l) = some_older (s.object x) l

  pub edge_object : (x y : N) → IsEdge s.object s.handle x y → is_object s.object y ≡ true
  edge_object x y a =
      ⊎_elim (λ f. w.fields x y f) (λ (d : IsAttached s.handle x y).
      w.secondaries d.slot d.handle y d.is_stored d.secondary) a

  pub leads_object : {x y : N} → is_object s.object x ≡ true → Leads (IsEdge s.object s.handle) x y
      → is_object s.object y ≡ true
  leads_object h Leads.here = h
  leads_object h (Leads.more {y = y} {z = z} chain e) = edge_object y z e

  pub reached_object : (x : N) → IsReached s n x → is_object s.object x ≡ true
  reached_object x h = leads_object (root_object h.0 h.1.0) h.1.1

  pub kept_object : (x : N) → IsKept s n x → is_object s.object x ≡ true
  kept_object x h =
      leads_object
      (⊎_elim (λ a. reached_object h.0 a) (λ (v : IsToBeFinalized s n h.0). ap is_some v.is_stored) h.1.0)
      h.1.1

-- what is reached is closed under edges and kept, and so is what is resurrected
module _ {N : Type 0} (n : ℕ) (s : Scene N) where
  pub root_reached : (x : N) → IsRoot s n x → IsReached s n x
  root_reached x h = (x, (h, Leads.here))

  pub reached_on : (x y : N) → IsReached s n x → IsEdge s.object s.handle x y → IsReached s n y
  reached_on x y h a = (h.0, (h.1.0, Leads.more h.1.1 a))

  pub reached_kept : (x : N) → IsReached s n x → IsKept s n x
  reached_kept x h = (x, (inl h, Leads.here))

  pub resurrected_kept : (x : N) → IsToBeFinalized s n x → IsKept s n x
  resurrected_kept x h = (x, (inr h, Leads.here))

  pub kept_on : (x y : N) → IsKept s n x → IsEdge s.object s.handle x y → IsKept s n y
  kept_on x y h a = (h.0, (h.1.0, Leads.more h.1.1 a))

module _ {N : Type 0} (rank : N → ℕ) (n : ℕ) (s t : Scene N) (r : Report) (w : IsWhole s)
    (c : Collects rank n s t r) where
  pub keeps_root : (x : N) → IsRoot s n x → c.kept x ≡ true
  keeps_root x h = (c.kept_is x).1 (reached_kept n s x (root_reached n s x h))

  pub keeps_reached : (x : N) → c.reach x ≡ true → c.kept x ≡ true
  keeps_reached x h = (c.kept_is x).1 (reached_kept n s x ((c.reach_is x).0 h))

  pub keeps_resurrected : (x : N) → c.resurrected x ≡ true → c.kept x ≡ true
  keeps_resurrected x h = (c.kept_is x).1 (resurrected_kept n s x ((c.resurrected_is x).0 h))

  pub keeps_edge : (x y : N) → c.kept x ≡ true → IsEdge s.object s.handle x y → c.kept y ≡ true
  keeps_edge x y h a = (c.kept_is y).1 (kept_on n s x y ((c.kept_is x).0 h) a)

  -- an object after the collection was one before it and is kept, and a kept object is one after it
  pub object_before : (x : N) (o : Object N) → t.object x ≡ Some o
      → (c.kept x ≡ true) × ((p : Object N) × ((s.object x ≡ Some p) × (survivor n (c.resurrected x) p ≡ o)))
  object_before x o e =
      left_from (c.kept x) (survivor n (c.resurrected x)) (s.object x) o (sym (c.objects x) ∙ e)

  pub object_after : (x : N) (p : Object N) → c.kept x ≡ true → s.object x ≡ Some p
      → t.object x ≡ Some (survivor n (c.resurrected x) p)
  object_after x p h e =
      c.objects x ∙ cond-true (c.kept x) (option_map (survivor n (c.resurrected x)) (s.object x)) None h
      ∙ ap (option_map (survivor n (c.resurrected x))) e

  pub still_object : (x : N) → c.kept x ≡ true → is_object t.object x ≡ true
  still_object x h =
      let (p, e) = some_value (s.object x) (kept_object n s w x ((c.kept_is x).0 h)) in
      ap is_some (object_after x p h e)

  pub handle_before : (slot : ℕ) (h : Handle N) → t.handle slot ≡ Some h
      → (g : Handle N) × ((s.handle slot ≡ Some g) × (cleared c.reach c.kept g ≡ h))
  handle_before slot h e = mapped_value (cleared c.reach c.kept) (s.handle slot) h (sym (c.handles slot) ∙ e)

  -- what a handle that stays references is kept
  pub target_kept : (slot : ℕ) (g : Handle N) (x : N) → s.handle slot ≡ Some g
      → loses c.reach c.kept g ≡ false → g.target ≡ Some x → c.kept x ≡ true
  target_kept slot g x is_stored stays e =
      ⊎_elim (λ is_in_use. keeps_root x
      (held (record { slot = slot; handle = g; is_stored = is_stored; holds = is_in_use; target = e })))
      (λ set. ⊎_elim (keeps_reached x) (λ k. k) set) (role_cases (role g) c.reach c.kept g.target x stays e)

  secondary_by : (slot : ℕ) (g : Handle N) (y : N) → s.handle slot ≡ Some g → is_lost c.kept g.target ≡ false
      → secondary_of g.extra ≡ Some y → role g ≡ attaches → (o : Option N) → g.target ≡ o → c.kept y ≡ true
  secondary_by slot g y is_stored stays e attached None none =
      absurd (none-some y (sym (w.paired slot g is_stored none) ∙ e))
  secondary_by slot g y is_stored stays e attached (Some x) some =
      keeps_edge x y (not_lost c.kept g.target x stays some)
      (inr (record {
        slot = slot;
        handle = g;
        is_stored = is_stored;
        attaches = attached;
        target = some;
        secondary = e;
      }))

  pub secondary_kept : (slot : ℕ) (g : Handle N) (y : N) → s.handle slot ≡ Some g
      → (is_attaching (role g) && is_lost c.kept g.target) ≡ false
      → secondary_of g.extra ≡ Some y → c.kept y ≡ true
  secondary_kept slot g y is_stored stays e =
      let attached : role g ≡ attaches = w.fits slot g y is_stored e in
      secondary_by slot g y is_stored (attached_kept (role g) (is_lost c.kept g.target) attached stays) e
      attached g.target refl

  -- a field after the collection is one before, of a kept object
  pub field_before : (x y : N) → IsField t.object x y → (c.kept x ≡ true) × IsField s.object x y
  field_before x y f = from (t.object x) refl f
    where
      from : (o : Option (Object N)) → t.object x ≡ o → Contains (fields_in o) (Some y) → (c.kept x ≡ true)
          × IsField s.object x y
      from None e h = absurd (not_in_none (Some y) h)
      from (Some o) e h =
          let (kept, rest) = object_before x o e in
          let (p, both) = rest in (
            kept,
            subst (λ q. Contains (fields_in q) (Some y)) (sym both.0)
                (subst (λ (q : Object N). Contains q.fields (Some y)) (sym both.1) h),
          )

  -- a dependent handle that keeps its secondary keeps its target and its role
  attached_target : (slot : ℕ) (g : Handle N) (y : N) → s.handle slot ≡ Some g
      → (is_attaching (role g) && is_lost c.kept g.target) ≡ false
      → secondary_of g.extra ≡ Some y → (cleared c.reach c.kept g).target ≡ None → ⊥
  attached_target slot g y is_stored stays e none =
      let attached : role g ≡ attaches = w.fits slot g y is_stored e in
      let lost : is_lost c.kept g.target ≡ false =
      attached_kept (role g) (is_lost c.kept g.target) attached stays in
      let loses_none : loses c.reach c.kept g ≡ false = ap (λ q. loses_by q c.reach c.kept g.target) attached
      ∙ lost in
      let target_none : g.target ≡ None = sym (cond-false (loses c.reach c.kept g) None g.target loses_none)
      ∙ none in
      none-some y (sym (w.paired slot g is_stored target_none) ∙ e)

  attached_role : (slot : ℕ) (g : Handle N) (y : N) → s.handle slot ≡ Some g
      → (is_attaching (role g) && is_lost c.kept g.target) ≡ false
      → secondary_of g.extra ≡ Some y → role (cleared c.reach c.kept g) ≡ attaches
  attached_role slot g y is_stored stays e =
      ap (λ b. role_of g.kind (cond b (secondary None) g.extra)) stays ∙ w.fits slot g y is_stored e

  paired_after : (slot : ℕ) (h : Handle N) → t.handle slot ≡ Some h → h.target ≡ None → (o : Option N)
      → secondary_of h.extra ≡ o → secondary_of h.extra ≡ None
  paired_after slot h is_stored none None e = e
  paired_after slot h is_stored none (Some y) e =
      let (g, both) = handle_before slot h is_stored in
      let (stays, before) = cleared_secondary c.reach c.kept g y
      (ap (λ (q : Handle N). secondary_of q.extra) both.1 ∙ e) in
      absurd (attached_target slot g y both.0 stays before (ap (λ (q : Handle N). q.target) both.1 ∙ none))

  -- a whole scene is whole after it
  pub whole_after : IsWhole t
  whole_after = record {
    fields = λ x y f. let (kept, field) = field_before x y f in
        still_object y (keeps_edge x y kept (inl field));
    named = λ x h. still_object x (keeps_root x (named (subst (λ xs. Contains xs (Some x)) c.named h)));
    queue = λ x h.
        still_object x (⊎_elim (λ is_queued. keeps_root x (queued is_queued))
        (λ joined. keeps_resurrected x ((c.joins_are x).1 joined))
        (Contains-append_cases s.queue c.joins x (subst (λ xs. Contains xs x) c.queue h)));
    targets = λ slot h x is_stored target.
        let (g, both) = handle_before slot h is_stored in
        let (stays, before) = cleared_target c.reach c.kept g x
        (ap (λ (q : Handle N). q.target) both.1 ∙ target) in
        still_object x (target_kept slot g x both.0 stays before);
    secondaries = λ slot h y is_stored second.
        let (g, both) = handle_before slot h is_stored in
        let (stays, before) = cleared_secondary c.reach c.kept g y
        (ap (λ (q : Handle N). secondary_of q.extra) both.1 ∙ second) in
        still_object y (secondary_kept slot g y both.0 stays before);
    paired = λ slot h is_stored none. paired_after slot h is_stored none (secondary_of h.extra) refl;
    fits = λ slot h y is_stored second.
        let (g, both) = handle_before slot h is_stored in
        let (stays, before) = cleared_secondary c.reach c.kept g y
        (ap (λ (q : Handle N). secondary_of q.extra) both.1 ∙ second) in
        subst (λ (q : Handle N). role q ≡ attaches) both.1 (attached_role slot g y both.0 stays before);
  }
