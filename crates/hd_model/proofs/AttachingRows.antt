-- A state with other handles and another weak table, where the rows that are gone attach to one object alone,
-- and those that are new attach to none: the object is in use, and kept, there exactly where it is here.
use Rattle.hd_model.proofs.Basics.{Bool, Collects, FinMap, Handle, Id, IsAttached, IsHeld, IsInUse, IsKept, IsReached, IsRoot, IsSome, IsToBeFinalized, IsWhole, Leads, None, Option, Report, Some, State, WeakEntry, ap, attaches, cases_Bool, false≢true, get, held, inl, inr, is_attaching, named, nat_cmp, none-some, older, queued, role, row_of, same_Some, scene_of, subst, sym, true, true≢false, ℕ, ⊎_elim, ◌∙◌, ◌≡◌, ◌⊎◌}
use Rattle.hd_model.proofs.{EdgeChains.leads_on, EdgeInvariants.leads_like, SceneCollection.still_object, Reports.kept_since}
use Rattle.hd_model.proofs.UseChains.{Edge, use_reached, reached_use}

module _ (s : State) (handles : FinMap nat_cmp (Handle Id)) (weak : FinMap nat_cmp (Option (WeakEntry Id)))
    (x : Id)
    (new : (q : ℕ) (h : Handle Id) → row_of (record s { handles = handles; weak = weak }) q ≡ Some h
    → (row_of s q ≡ Some h) ⊎ (h.target ≡ None))
    (old : (q : ℕ) (h : Handle Id) → row_of s q ≡ Some h → ((role h ≡ attaches) × (h.target ≡ Some x))
    ⊎ (row_of (record s { handles = handles; weak = weak }) q ≡ Some h)) where
  abbrev less : State
  less = record s { handles = handles; weak = weak }

  row_was : (q : ℕ) (h : Handle Id) (y : Id) → row_of less q ≡ Some h → h.target ≡ Some y
      → row_of s q ≡ Some h
  row_was q h y is_stored target =
      ⊎_elim (λ was. was) (λ none. absurd (none-some y (sym none ∙ target))) (new q h is_stored)

  edge_was : (y z : Id) → Edge less y z → Edge s y z
  edge_was y z e = ⊎_elim (λ f. inl f)
      (λ (a : IsAttached (scene_of less).handle y z). inr (record {
        slot = a.slot;
        handle = a.handle;
        is_stored = row_was a.slot a.handle y a.is_stored a.target;
        attaches = a.attaches;
        target = a.target;
        secondary = a.secondary;
      })) e

  edge_or : (y z : Id) → Edge s y z → Edge less y z ⊎ (y ≡ x)
  edge_or y z e = ⊎_elim (λ f. inl (inl f))
      (λ (a : IsAttached (scene_of s).handle y z). ⊎_elim
      (λ own. inr (same_Some y x (sym a.target ∙ own.1)))
      (λ is_stored. inl (inr (record {
        slot = a.slot;
        handle = a.handle;
        is_stored = is_stored;
        attaches = a.attaches;
        target = a.target;
        secondary = a.secondary;
      })))
      (old a.slot a.handle a.is_stored)) e

  -- a chain does without the row, or leads to its target without it
  chain_or : {y z : Id} → Leads (Edge s) y z → Leads (Edge less) y z ⊎ Leads (Edge less) y x
  chain_or Leads.here = inl Leads.here
  chain_or {y = y} (Leads.more {y = p} {z = q} chain e) =
      ⊎_elim
      (λ without. ⊎_elim (λ edge. inl (Leads.more without edge))
      (λ same. inr (subst (λ k. Leads (Edge less) y k) same without)) (edge_or p q e))
      (λ there. inr there) (chain_or chain)

  chain_less : {y : Id} → Leads (Edge s) y x → Leads (Edge less) y x
  chain_less chain = ⊎_elim (λ a. a) (λ b. b) (chain_or chain)

  chain_was : {y z : Id} → Leads (Edge less) y z → Leads (Edge s) y z
  chain_was chain = leads_like (Edge less) (Edge s) edge_was chain

  module _ (n : ℕ) where
    held_less : (y : Id) → IsHeld (scene_of s).handle y → IsHeld (scene_of less).handle y
    held_less y h =
        ⊎_elim (λ own. absurd (false≢true (ap is_attaching (sym h.holds ∙ own.0))))
        (λ is_stored. record {
          slot = h.slot;
          handle = h.handle;
          is_stored = is_stored;
          holds = h.holds;
          target = h.target;
        })
        (old h.slot h.handle h.is_stored)

    root_less : (y : Id) → IsRoot (scene_of s) n y → IsRoot (scene_of less) n y
    root_less y (named h) = named h
    root_less y (queued h) = queued h
    root_less y (held h) = held (held_less y h)
    root_less y (older l) = older l

    root_was : (y : Id) → IsRoot (scene_of less) n y → IsRoot (scene_of s) n y
    root_was y (named h) = named h
    root_was y (queued h) = queued h
    root_was y (held h) = held (record {
      slot = h.slot;
      handle = h.handle;
      is_stored = row_was h.slot h.handle y h.is_stored h.target;
      holds = h.holds;
      target = h.target;
    })
    root_was y (older l) = older l

    reached_less : IsReached (scene_of s) n x → IsReached (scene_of less) n x
    reached_less h = (h.0, (root_less h.0 h.1.0, chain_less h.1.1))

    reached_was : (y : Id) → IsReached (scene_of less) n y → IsReached (scene_of s) n y
    reached_was y h = (h.0, (root_was h.0 h.1.0, chain_was h.1.1))

    pub use_less : IsInUse n s x → IsInUse n less x
    use_less h = reached_use less n x (reached_less (use_reached s n x h))

    pub use_was : IsInUse n less x → IsInUse n s x
    use_was h = reached_use s n x (reached_was x (use_reached less n x h))

    kept_less : IsKept (scene_of s) n x → IsKept (scene_of less) n x
    kept_less (start, from) =
        ⊎_elim
        (λ (reached : IsReached (scene_of s) n start).
        let there = reached_less (reached.0, (reached.1.0, leads_on (Edge s) reached.1.1 from.1)) in
        (x, (inl there, Leads.here)))
        (λ (v : IsToBeFinalized (scene_of s) n start). (
          start,
          (
            inr (record {
              object = v.object;
              is_stored = v.is_stored;
              registered = v.registered;
              young = v.young;
              lost = λ reached. v.lost (reached_was start reached);
            }),
            chain_less from.1,
          ),
        ))
        from.0

    -- what is resurrected without the row is resurrected with it, or reached by it
    kept_was : (reach : Id → Bool) → ((y : Id) → (reach y ≡ true) → IsReached (scene_of s) n y)
        → ((y : Id) → IsReached (scene_of s) n y → reach y ≡ true) → (y : Id)
        → IsKept (scene_of less) n y → IsKept (scene_of s) n y
    kept_was reach to back y (start, from) =
        ⊎_elim
        (λ (reached : IsReached (scene_of less) n start).
        (start, (inl (reached_was start reached), chain_was from.1)))
        (λ (v : IsToBeFinalized (scene_of less) n start). ⊎_elim
        (λ yes. (start, (inl (to start yes), chain_was from.1)))
        (λ no. (
          start,
          (
            inr (record {
              object = v.object;
              is_stored = v.is_stored;
              registered = v.registered;
              young = v.young;
              lost = λ reached. true≢false (sym (back start reached) ∙ no);
            }),
            chain_was from.1,
          ),
        ))
        (cases_Bool (reach start)))
        from.0

    -- where the row's target is not kept, all that is kept is kept without the row
    kept_beside : (IsKept (scene_of s) n x → ⊥) → (y : Id) → IsKept (scene_of s) n y
        → IsKept (scene_of less) n y
    kept_beside never y (start, from) =
        ⊎_elim
        (λ chain. (
          start,
          (
            ⊎_elim
                (λ (reached : IsReached (scene_of s) n start). inl (reached_beside reached))
                (λ (v : IsToBeFinalized (scene_of s) n start). inr (record {
                  object = v.object;
                  is_stored = v.is_stored;
                  registered = v.registered;
                  young = v.young;
                  lost = λ reached. v.lost (reached_was start reached);
                }))
                from.0,
            chain,
          ),
        ))
        (λ there. absurd (never (start, (from.0, chain_was there)))) (chain_or from.1)
      where
        reached_beside : IsReached (scene_of s) n start → IsReached (scene_of less) n start
        reached_beside (r, h) =
            ⊎_elim (λ chain. (r, (root_less r h.0, chain)))
            (λ there. absurd (never (x, (inl (r, (h.0, chain_was there)), Leads.here)))) (chain_or h.1)

    -- over a collection of each, an object that is kept there where it is here stays in both or in none
    alike : (y : Id) → (IsKept (scene_of s) n y → IsKept (scene_of less) n y) → (t u : State) (r q : Report)
        → IsWhole (scene_of s) → IsWhole (scene_of less)
        → Collects (λ (z : Id). z.0) n (scene_of s) (scene_of t) r
        → Collects (λ (z : Id). z.0) n (scene_of less) (scene_of u) q
        → (IsSome (get t.objects y.0) → IsSome (get u.objects y.0))
        × (IsSome (get u.objects y.0) → IsSome (get t.objects y.0))
    alike y to t u r q w v c e = (
      λ stays. still_object (λ (z : Id). z.0) n (scene_of less) (scene_of u) q v e y
          ((e.kept_is y).1 (to ((c.kept_is y).0
          (kept_since (λ (z : Id). z.0) n (scene_of s) (scene_of t) r w c y stays)))),
      λ stays. still_object (λ (z : Id). z.0) n (scene_of s) (scene_of t) r w c y
          ((c.kept_is y).1 (kept_was c.reach (λ z. (c.reach_is z).0) (λ z. (c.reach_is z).1) y
          ((e.kept_is y).0 (kept_since (λ (z : Id). z.0) n (scene_of less) (scene_of u) q v e y stays)))),
    )

    pub stays_alike : (t u : State) (r q : Report) → IsWhole (scene_of s) → IsWhole (scene_of less)
        → Collects (λ (y : Id). y.0) n (scene_of s) (scene_of t) r
        → Collects (λ (y : Id). y.0) n (scene_of less) (scene_of u) q
        → (IsSome (get t.objects x.0) → IsSome (get u.objects x.0))
        × (IsSome (get u.objects x.0) → IsSome (get t.objects x.0))
    stays_alike = alike x kept_less

    pub others_alike : (IsKept (scene_of s) n x → ⊥) → (y : Id) (t u : State) (r q : Report)
        → IsWhole (scene_of s) → IsWhole (scene_of less)
        → Collects (λ (z : Id). z.0) n (scene_of s) (scene_of t) r
        → Collects (λ (z : Id). z.0) n (scene_of less) (scene_of u) q
        → (IsSome (get t.objects y.0) → IsSome (get u.objects y.0))
        × (IsSome (get u.objects y.0) → IsSome (get t.objects y.0))
    others_alike never y = alike y (kept_beside never y)
