-- After a collection of n every object is reached by the next one of n, which so finds nothing to do.
use Rattle.hd_model.proofs.Basics.{Bool, Collects, Contains, Contains-append_left, Contains-append_right, Handle, IsAttached, IsEdge, IsField, IsHeld, IsReached, IsRemoved, IsRoot, IsToBeFinalized, IsWhole, Leads, List, LosesAs, None, Object, Option, Report, Role, Scene, Some, [], ap, append-nil, arith, attaches, cleared, cond-false, false, false≢true, fields_in, generation_at, generation_in, held, holds, inl, inr, is_attaching, is_lost, is_object, is_some, long, loses, loses_by, named, nat_tests, not_from_true, older, option_map, queued, raised, refl, role, secondary, short, subst, sym, true, true≢false, ℕ, ⊎_elim, ◌&&◌, ◌++◌, ◌<◌, ◌∙◌, ◌∷◌, ◌≡◌}
use Rattle.hd_model.proofs.{EdgeChains.leads_on, EdgeChains.leads_turn, Members.not_in_none, Members.first_in, MapEntries.some_value, PropertyCounts.counts_zero}
use Rattle.hd_model.proofs.SceneCollection.{keeps_root, keeps_edge, object_before, object_after, whole_after, reached_kept}

-- a generation above n is not raised
pub raised_older : (n g : ℕ) → n < g → raised n g ≡ g
raised_older n g l = grind (arith, nat_tests)

-- a set that has the target does not lose it
pub kept_target : {N : Type 0} (p : N → Bool) (o : Option N) → ((x : N) → o ≡ Some x → p x ≡ true)
    → is_lost p o ≡ false
kept_target p None all = refl
kept_target p (Some x) all = not_from_true (p x) (all x refl)

-- a handle whose target is in both sets loses nothing
pub loses_none : {N : Type 0} (r : Role) (reach kept : N → Bool) (o : Option N)
    → ((x : N) → o ≡ Some x → reach x ≡ true)
    → ((x : N) → o ≡ Some x → kept x ≡ true) → loses_by r reach kept o ≡ false
loses_none holds reach kept o a b = refl
loses_none short reach kept o a b = kept_target reach o a
loses_none long reach kept o a b = kept_target kept o b
loses_none attaches reach kept o a b = kept_target kept o b

pub attaching_lost : (r : Role) (lost : Bool) → lost ≡ false → (is_attaching r && lost) ≡ false
attaching_lost holds lost e = refl
attaching_lost short lost e = refl
attaching_lost long lost e = refl
attaching_lost attaches lost e = e

-- a handle that loses nothing stays as it was
pub cleared_same : {N : Type 0} (reach kept : N → Bool) (h : Handle N) → loses reach kept h ≡ false
    → (is_attaching (role h) && is_lost kept h.target) ≡ false → cleared reach kept h ≡ h
cleared_same reach kept h target extra = λ i. record {
  kind = h.kind;
  target = cond-false (loses reach kept h) None h.target target i;
  extra = cond-false (is_attaching (role h) && is_lost kept h.target) (secondary None) h.extra extra i;
}

module _ {N : Type 0} (rank : N → ℕ) (n : ℕ) (s t : Scene N) (r : Report) (w : IsWhole s)
    (c : Collects rank n s t r) where
  -- a handle whose target is kept, and reached where it is a short one, stays
  held_stays : (x : N) → IsHeld s.handle x → IsHeld t.handle x
  held_stays x h =
      let target : loses c.reach c.kept h.handle ≡ false =
      ap (λ q. loses_by q c.reach c.kept h.handle.target) h.holds in
      let extra : (is_attaching (role h.handle) && is_lost c.kept h.handle.target) ≡ false =
      ap (λ q. is_attaching q && is_lost c.kept h.handle.target) h.holds in
      record {
        slot = h.slot;
        handle = h.handle;
        is_stored = c.handles h.slot ∙ ap (option_map (cleared c.reach c.kept)) h.is_stored
            ∙ ap (λ g. Some g) (cleared_same c.reach c.kept h.handle target extra);
        holds = h.holds;
        target = h.target;
      }

  older_stays : (x : N) → n < generation_at s.object x → (o : Option (Object N)) → s.object x ≡ o
      → n < generation_at t.object x
  older_stays x l None e = let low : n < generation_in {N = N} None =
      subst (λ (q : Option (Object N)). n < generation_in q) e l in absurd (omega arith)
  older_stays x l (Some p) e =
      let high : n < p.generation = subst (λ (q : Option (Object N)). n < generation_in q) e l in
      let after = object_after rank n s t r w c x p (keeps_root rank n s t r w c x (older l)) e in
      subst (λ g. n < g) (sym (ap generation_in after ∙ raised_older n p.generation high)) high

  pub root_stays : (x : N) → IsRoot s n x → IsRoot t n x
  root_stays x (named h) = named (subst (λ xs. Contains xs (Some x)) (sym c.named) h)
  root_stays x (queued h) = queued
      (subst (λ xs. Contains xs x) (sym c.queue) (Contains-append_left s.queue c.joins x h))
  root_stays x (held h) = held (held_stays x h)
  root_stays x (older l) = older (older_stays x l (s.object x) refl)

  field_stays : (x y : N) → c.kept x ≡ true → (o : Option (Object N)) → s.object x ≡ o → IsField s.object x y
      → IsField t.object x y
  field_stays x y kept None e f =
      absurd (not_in_none (Some y) (subst (λ (q : Option (Object N)). Contains (fields_in q) (Some y)) e f))
  field_stays x y kept (Some p) e f =
      subst (λ (q : Option (Object N)). Contains (fields_in q) (Some y))
      (sym (object_after rank n s t r w c x p kept e))
      (subst (λ (q : Option (Object N)). Contains (fields_in q) (Some y)) e f)

  attached_stays : (x y : N) → c.kept x ≡ true → IsAttached s.handle x y → IsAttached t.handle x y
  attached_stays x y kept a =
      let lost : is_lost c.kept a.handle.target ≡ false =
      ap (is_lost c.kept) a.target ∙ not_from_true (c.kept x) kept in
      let target : loses c.reach c.kept a.handle ≡ false =
      ap (λ q. loses_by q c.reach c.kept a.handle.target) a.attaches ∙ lost in
      let extra : (is_attaching (role a.handle) && is_lost c.kept a.handle.target) ≡ false =
      attaching_lost (role a.handle) (is_lost c.kept a.handle.target) lost in
      record {
        slot = a.slot;
        handle = a.handle;
        is_stored = c.handles a.slot ∙ ap (option_map (cleared c.reach c.kept)) a.is_stored
            ∙ ap (λ g. Some g) (cleared_same c.reach c.kept a.handle target extra);
        attaches = a.attaches;
        target = a.target;
        secondary = a.secondary;
      }

  pub edge_stays : (x y : N) → c.kept x ≡ true → IsEdge s.object s.handle x y → IsEdge t.object t.handle x y
  edge_stays x y kept a = ⊎_elim (λ f. inl (field_stays x y kept (s.object x) refl f))
      (λ d. inr (attached_stays x y kept d)) a

  chain_stays : {x y : N} → c.kept x ≡ true → Leads (IsEdge s.object s.handle) x y
      → Leads (IsEdge t.object t.handle) x y
  chain_stays kept chain =
      (leads_turn (IsEdge s.object s.handle) (IsEdge t.object t.handle) (λ x. x) (λ x. c.kept x ≡ true)
      (λ x y k a. keeps_edge rank n s t r w c x y k a) (λ x y k a. edge_stays x y k a) kept chain).1

  pub reached_stays : (x : N) → IsReached s n x → IsReached t n x
  reached_stays x h = (h.0, (root_stays h.0 h.1.0, chain_stays (keeps_root rank n s t r w c h.0 h.1.0) h.1.1))

  resurrected_reached : (x : N) → IsToBeFinalized s n x → IsReached t n x
  resurrected_reached x h = (
    x,
    (
      queued (subst (λ xs. Contains xs x) (sym c.queue)
          (Contains-append_right s.queue c.joins x ((c.joins_are x).0 ((c.resurrected_is x).1 h)))),
      Leads.here,
    ),
  )

  -- each object after a collection of n is reached
  pub all_reached : (x : N) → is_object t.object x ≡ true → IsReached t n x
  all_reached x h =
      let (o, e) = some_value (t.object x) h in
      let kept = (c.kept_is x).0 (object_before rank n s t r w c x o e).0 in
      let start : IsReached t n kept.0 =
      ⊎_elim (reached_stays kept.0) (resurrected_reached kept.0) kept.1.0 in
      let first : c.kept kept.0 ≡ true = (c.kept_is kept.0).1 (kept.0, (kept.1.0, Leads.here)) in
      (start.0, (start.1.0, leads_on (IsEdge t.object t.handle) start.1.1 (chain_stays first kept.1.1)))

module _ {N : Type 0} (rank : N → ℕ) (n : ℕ) (s t u : Scene N) (r q : Report) (w : IsWhole s)
    (c : Collects rank n s t r) (d : Collects rank n t u q) where
  in_reach : (x : N) → is_object t.object x ≡ true → d.reach x ≡ true
  in_reach x h = (d.reach_is x).1 (all_reached rank n s t r w c x h)

  in_kept : (x : N) → is_object t.object x ≡ true → d.kept x ≡ true
  in_kept x h = (d.kept_is x).1 (reached_kept n t x (all_reached rank n s t r w c x h))

  whole : IsWhole t
  whole = whole_after rank n s t r w c

  none_resurrected : (x : N) → d.resurrected x ≡ true → ⊥
  none_resurrected x h = let v = (d.resurrected_is x).0 h in
      v.lost (all_reached rank n s t r w c x (ap is_some v.is_stored))

  none_lost : (slot : ℕ) (h : Handle N) → t.handle slot ≡ Some h → loses d.reach d.kept h ≡ false
  none_lost slot h e =
      loses_none (role h) d.reach d.kept h.target (λ x at. in_reach x (whole.targets slot h x e at))
      (λ x at. in_kept x (whole.targets slot h x e at))

  none_detached : (slot : ℕ) (h : Handle N) → t.handle slot ≡ Some h
      → (is_attaching (role h) && is_lost d.kept h.target) ≡ false
  none_detached slot h e =
      attaching_lost (role h) (is_lost d.kept h.target)
      (kept_target d.kept h.target (λ x at. in_kept x (whole.targets slot h x e at)))

  none_loses : (wanted : Role) (slot : ℕ) → LosesAs t d.reach d.kept wanted slot → ⊥
  none_loses wanted slot l = false≢true (sym (none_lost slot l.handle l.is_stored) ∙ l.loses)

  none_removed : (x : N) → IsRemoved t d.kept x → ⊥
  none_removed x h = true≢false (sym (in_kept x h.object) ∙ h.lost)

  pub idle_row : (slot : ℕ) (h : Handle N) → t.handle slot ≡ Some h → cleared d.reach d.kept h ≡ h
  idle_row slot h e = cleared_same d.reach d.kept h (none_lost slot h e) (none_detached slot h e)

  empty_joins : (xs : List N) → ((x : N) → Contains xs x → ⊥) → xs ≡ []
  empty_joins [] never = refl
  empty_joins (x ∷ xs) never = absurd (never x (first_in x xs))

  pub idle_queue : u.queue ≡ t.queue
  idle_queue =
      d.queue ∙ ap (λ xs. t.queue ++ xs)
      (empty_joins d.joins (λ x h. none_resurrected x ((d.joins_are x).1 h))) ∙ append-nil t.queue

  pub idle_removed : q.removed ≡ 0
  idle_removed = counts_zero (IsRemoved t d.kept) q.removed none_removed d.report_is.removed

  pub idle_short : q.short ≡ 0
  idle_short = counts_zero (LosesAs t d.reach d.kept short) q.short (none_loses short) d.report_is.short

  pub idle_long : q.long ≡ 0
  idle_long = counts_zero (LosesAs t d.reach d.kept long) q.long (none_loses long) d.report_is.long

  pub idle_dep : q.dep ≡ 0
  idle_dep = counts_zero (LosesAs t d.reach d.kept attaches) q.dep (none_loses attaches) d.report_is.dep

  pub idle_resurrected : q.revived ≡ 0
  idle_resurrected =
      counts_zero (λ x. d.resurrected x ≡ true) q.revived none_resurrected d.report_is.resurrected
