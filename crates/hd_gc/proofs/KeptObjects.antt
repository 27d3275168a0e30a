-- What is resurrected and kept, by what is reached and by the rows that the clearing of short handles left.
use Rattle.hd_gc.proofs.Basics.{Bool, Contains, Counts, Decides, Handle, IsAttached, IsEdge, IsKept, IsOut, IsReached, IsToBeFinalized, List, Objects, Resurrection, Role, Rows, Scene, Some, ap, attaches, cases_Bool, counts_like, decides_kept, false, has_role, inl, inr, is_role, leads_like, mapped_value, option_map, refl, role, short, swept, sym, true, true≢false, ℕ, ⊎_elim, ◌∙◌, ◌≡◌}
use Rattle.hd_gc.proofs.HandleRoles.{other_stays}

-- dependent handles whose rows stay
attached_like : {N : Type 0} (before after : Rows N)
    → ((slot : ℕ) (h : Handle N) → before slot ≡ Some h → role h ≡ attaches → after slot ≡ Some h) → (x y : N)
    → IsAttached before x y → IsAttached after x y
attached_like before after stays x y a = record {
  slot = a.slot;
  handle = a.handle;
  is_stored = stays a.slot a.handle a.is_stored a.attaches;
  attaches = a.attaches;
  target = a.target;
  secondary = a.secondary;
}

-- the rows of another role stay where those of a role lose targets
module _ {N : Type 0} (r : Role) (p : N → Bool) (before after : Rows N)
    (rows : (slot : ℕ) → after slot ≡ option_map (swept true (has_role r) p) (before slot)) where
  pub row_after : (slot : ℕ) (h : Handle N) → before slot ≡ Some h → is_role r (role h) ≡ false
      → after slot ≡ Some h
  row_after slot h e other =
      rows slot ∙ ap (option_map (swept true (has_role r) p)) e ∙ ap (λ g. Some g) (other_stays r p h other)

  pub row_before : (slot : ℕ) (h : Handle N) → after slot ≡ Some h → is_role r (role h) ≡ false
      → before slot ≡ Some h
  row_before slot h e other =
      let (g, both) = mapped_value (swept true (has_role r) p) (before slot) h (sym (rows slot) ∙ e) in
      let same : role g ≡ role h = ap (λ (q : Handle N). role q) both.1 in
      let stays : swept true (has_role r) p g ≡ g = other_stays r p g (ap (is_role r) same ∙ other) in
      both.0 ∙ ap (λ k. Some k) (sym stays ∙ both.1)

  -- so edges stay, where the role is not that of dependent handles
  module _ (apart : is_role r attaches ≡ false) (o : Objects N) (x y : N) where
    pub edge_after : IsEdge o before x y → IsEdge o after x y
    edge_after =
        ⊎_elim (λ f. inl f)
        (λ a. inr (attached_like before after
        (λ slot h e is. row_after slot h e (ap (is_role r) is ∙ apart)) x y a))

    pub edge_before : IsEdge o after x y → IsEdge o before x y
    edge_before =
        ⊎_elim (λ f. inl f)
        (λ a. inr (attached_like after before
        (λ slot h e is. row_before slot h e (ap (is_role r) is ∙ apart)) x y a))

module _ {N : Type 0} (s : Scene N) (n : ℕ) (reach : N → Bool)
    (reach_is : (x : N) → Decides (reach x) (IsReached s n x)) where
  pub out_resurrected : (x : N) → IsOut s.object n reach x → IsToBeFinalized s n x
  out_resurrected x h = record {
    object = h.object;
    is_stored = h.is_stored;
    registered = h.registered;
    young = h.young;
    lost = λ r. true≢false (sym ((reach_is x).1 r) ∙ h.out);
  }

  pub resurrected_out : (x : N) → IsToBeFinalized s n x → IsOut s.object n reach x
  resurrected_out x v = record {
    object = v.object;
    is_stored = v.is_stored;
    registered = v.registered;
    young = v.young;
    out = ⊎_elim (λ e. absurd (v.lost ((reach_is x).0 e))) (λ e. e) (cases_Bool (reach x));
  }

  module _ {rows : Rows N}
      (short_rows : (slot : ℕ) → rows slot ≡ option_map (swept true (has_role short) reach) (s.handle slot))
      {rank : N → ℕ} {kept : N → Bool} {after : List N}
      (v : Resurrection rank (record s { handle = rows }) n reach kept after) where
    pub kept_decides : (x : N) → Decides (kept x) (IsKept s n x)
    kept_decides =
        decides_kept s n kept (λ x r. v.keeps x ((reach_is x).1 r))
        (λ x h. v.resurrects x (resurrected_out x h))
        (λ x y h a. v.closed x y h (edge_after short reach s.handle rows short_rows refl s.object x y a))
        (λ x h.
        let (r, rest) = v.only x h in (
          r,
          (
            ⊎_elim (λ e. inl ((reach_is r).0 e)) (λ e. inr (out_resurrected r e)) rest.0,
            leads_like (IsEdge s.object rows) (IsEdge s.object s.handle)
                (λ x y a. edge_before short reach s.handle rows short_rows refl s.object x y a) rest.1,
          ),
        ))

    -- where a test finds those that join the queue, it finds what is resurrected
    module _ {test : N → Bool} (finds : (x : N) → Decides (test x) (Contains v.joins x)) where
      pub resurrected_decides : (x : N) → Decides (test x) (IsToBeFinalized s n x)
      resurrected_decides x = (
        λ e. out_resurrected x ((v.joins_are x).0 ((finds x).0 e)),
        λ w. (finds x).1 ((v.joins_are x).1 (resurrected_out x w)),
      )

      pub resurrections_counted : (k : ℕ) → Counts (IsOut s.object n reach) k → Counts (λ x. test x ≡ true) k
      resurrections_counted k =
          counts_like (IsOut s.object n reach) (λ x. test x ≡ true) k
          (λ x h. (finds x).1 ((v.joins_are x).1 h)) (λ x e. (v.joins_are x).0 ((finds x).0 e))
