-- Chains of edges as a user sees them are chains of the scene, and what is in use is what is reached.
use Rattle.hd_model.proofs.Basics.{Contains, Contains-append_cases, Handle, Id, IsAttached, IsEdge, IsInUse, IsLedTo, IsOlder, IsReached, IsResurrected, IsRoot, IsToBeFinalized, IsUsed, Leads, List, None, Object, Option, Some, State, [], ap, arith, attaches, by_dependent, by_field, by_handle, fields_in, from_start, generation_in, get, get_or, get_or_default, held, in_queue, in_register, in_static, inl, inr, is_attaching, joined, named, older, queued, refl, role, role_of, scene_of, subst, sym, ℕ, ⊎_elim, ◌<◌, ◌∙◌, ◌≡◌, ◌⊎◌}
use Rattle.hd_model.proofs.{Members.not_in_none, Members.joined_from, KindExtras.attaching_kind, WholeScenes.at_named, WholeScenes.field_in, CollectionLaws.used_root}
use Rattle.hd_model.specs.declared.data.Kind.TheVariants as kind

-- the edges of a state
abbrev pub Edge : State → Id → Id → Type 0
Edge s x y = IsEdge (scene_of s).object (scene_of s).handle x y

module _ (s : State) where
  pub attached_kind : (h : Handle Id) → role h ≡ attaches → h.kind ≡ kind.Dependent
  attached_kind h e = attaching_kind h.kind h.extra (ap is_attaching e)

  pub dependent_role : (h : Handle Id) → h.kind ≡ kind.Dependent → role h ≡ attaches
  dependent_role h e = ap (λ k. role_of k h.extra) e

  -- a chain from starts is a chain of the scene's edges from one of them
  pub led_chain : (Start : Id → Type 0) {y : Id} → IsLedTo s Start y
      → (r : Id) × (Start r × Leads (Edge s) r y)
  led_chain Start (from_start {x} h) = (x, (h, Leads.here))
  led_chain Start (by_field {x} {y} chain object i is_stored e) =
      let (r, rest) = led_chain Start chain in
      (r, (rest.0, Leads.more rest.1 (inl (field_in s x.0 object i y is_stored e))))
  led_chain Start (by_dependent {x} {y} chain slot h is_stored is target second) =
      let (r, rest) = led_chain Start chain in (
        r,
        (
          rest.0,
          Leads.more rest.1 (inr (record {
            slot = slot;
            handle = h;
            is_stored = is_stored;
            attaches = dependent_role h is;
            target = target;
            secondary = second;
          })),
        ),
      )

  field_led : (Start : Id → Type 0) (x y : Id) → IsLedTo s Start x → (o : Option (Object Id))
      → get s.objects x.0 ≡ o → Contains (fields_in o) (Some y) → IsLedTo s Start y
  field_led Start x y chain None e h = absurd (not_in_none (Some y) h)
  field_led Start x y chain (Some object) e h =
      let (i, at) = at_named object.fields y h in by_field chain object i e at

  -- an edge leads on
  pub led_on : (Start : Id → Type 0) (x y : Id) → IsLedTo s Start x → Edge s x y → IsLedTo s Start y
  led_on Start x y chain edge =
      ⊎_elim (λ f. field_led Start x y chain (get s.objects x.0) refl f)
      (λ (a : IsAttached (scene_of s).handle x y).
      by_dependent chain a.slot a.handle a.is_stored (attached_kind a.handle a.attaches) a.target
      a.secondary) edge

  pub chain_led : (Start : Id → Type 0) {r y : Id} → Start r → Leads (Edge s) r y → IsLedTo s Start y
  chain_led Start h Leads.here = from_start h
  chain_led Start h (Leads.more {y = x} {z = y} chain edge) = led_on Start x y (chain_led Start h chain) edge

  named_used : (x : Id) → Contains (scene_of s).named (Some x) → IsUsed s x
  named_used x h =
      ⊎_elim
      (λ in_row. let (row, rest) = joined_from s.registers (Some x) in_row in
      let (c, low, at_row) = rest.0 in
      let (d, at) = at_named row x rest.1 in
      in_register c d (ap (λ (r : List (Option Id)). get_or r d None)
      (get_or_default s.registers c [] row low ∙ at_row) ∙ at))
      (λ in_statics. let (k, at) = at_named s.statics x in_statics in in_static k at)
      (Contains-append_cases (joined s.registers) s.statics (Some x) h)

  module _ (n : ℕ) where
    older_root : (x : Id) → IsOlder n s x → IsRoot (scene_of s) n x
    older_root x h = older (subst (λ g. n < g) (sym (ap generation_in h.is_stored)) h.above)

    root_older : (x : Id) → (o : Option (Object Id)) → get s.objects x.0 ≡ o → n < generation_in o
        → IsOlder n s x
    root_older x None e l = absurd (omega arith)
    root_older x (Some object) e l = record { object = object; is_stored = e; above = l }

    pub root_used : (x : Id) → IsRoot (scene_of s) n x → IsUsed s x ⊎ IsOlder n s x
    root_used x (named h) = inl (named_used x h)
    root_used x (queued h) = inl (in_queue h)
    root_used x (held h) = inl (by_handle h.slot h.handle h.is_stored h.holds h.target)
    root_used x (older l) = inr (root_older x (get s.objects x.0) refl l)

    pub start_root : (x : Id) → IsUsed s x ⊎ IsOlder n s x → IsRoot (scene_of s) n x
    start_root x h = ⊎_elim (used_root n s x) (older_root x) h

    -- what is in use is what is reached
    pub use_reached : (x : Id) → IsInUse n s x → IsReached (scene_of s) n x
    use_reached x h =
        let (r, rest) = led_chain (λ y. IsUsed s y ⊎ IsOlder n s y) h in (r, (start_root r rest.0, rest.1))

    pub reached_use : (x : Id) → IsReached (scene_of s) n x → IsInUse n s x
    reached_use x h = chain_led (λ y. IsUsed s y ⊎ IsOlder n s y) (root_used h.0 h.1.0) h.1.1

    -- and what is resurrected is what the collector finds so
    pub resurrected_to_be_finalized : (x : Id) → IsResurrected n s x → IsToBeFinalized (scene_of s) n x
    resurrected_to_be_finalized x h = record {
      object = h.object;
      is_stored = h.is_stored;
      registered = h.registered;
      young = h.young;
      lost = λ reached. h.out_of_use (reached_use x reached);
    }

    pub to_be_finalized_resurrected : (x : Id) → IsToBeFinalized (scene_of s) n x → IsResurrected n s x
    to_be_finalized_resurrected x h = record {
      object = h.object;
      is_stored = h.is_stored;
      registered = h.registered;
      young = h.young;
      out_of_use = λ used. h.lost (use_reached x used);
    }
