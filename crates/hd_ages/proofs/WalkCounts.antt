-- The number of slots with a property, counted along a walk: of the visited ones at first none, at last all.
use Rattle.hd_ages.proofs.Basics.{Contains, Counts, List, [], cases_eq, counts_join, counts_like, counts_none, first_in, inl, inr, later_in, member_cases, member_same, not_in_none, pairs_cons, pairs_none, refl, subst, sym, ℕ, ⊎_elim, ◌+◌, ◌∷◌, ◌≡◌, ◌≢◌, ◌⊎◌}

-- a slot that has a property and was visited
abbrev pub IsPastWith : (ℕ → Type 0) → List ℕ → ℕ → Type 0
IsPastWith P left slot = P slot × (Contains left slot → ⊥)

one_slot : (slot : ℕ) → Counts (λ x. x ≡ slot) 1
one_slot slot = record {
  members = slot ∷ [];
  apart = pairs_cons (λ x y. x ≢ y) slot [] (λ y h. absurd (not_in_none y h)) (pairs_none (λ x y. x ≢ y));
  each = λ x h. ⊎_elim (λ e. sym e) (λ later. absurd (not_in_none x later)) (member_cases slot [] x h);
  all = λ x e. subst (Contains (slot ∷ [])) (sym e) (first_in slot []);
  number = refl;
}

module _ (P : ℕ → Type 0) where
  pub counted_start : (left : List ℕ) → ((slot : ℕ) → P slot → Contains left slot)
      → Counts (IsPastWith P left) 0
  counted_start left all = counts_none (IsPastWith P left) (λ slot h. h.1 (all slot h.0))

  pub counted_end : (left : List ℕ) (c : ℕ) → ((slot : ℕ) → Contains left slot → ⊥)
      → Counts (IsPastWith P left) c → Counts P c
  counted_end left c none counts =
      counts_like (IsPastWith P left) P c (λ slot h. h.0) (λ slot h. (h, none slot)) counts

  module _ (left rest : List ℕ) (slot c : ℕ) (is : left ≡ slot ∷ rest) (past : Contains rest slot → ⊥) where
    pub still_past : (x : ℕ) → (Contains left x → ⊥) → Contains rest x → ⊥
    still_past x gone h = gone (member_same _ _ (sym is) x (later_in slot rest x h))

    pub past_before : (x : ℕ) → x ≢ slot → (Contains rest x → ⊥) → Contains left x → ⊥
    past_before x ne gone h =
        ⊎_elim (λ e. ne (sym e)) gone (member_cases slot rest x (member_same _ _ is x h))

    -- one more
    pub counted_more : P slot → Counts (IsPastWith P left) c → Counts (IsPastWith P rest) (c + 1)
    counted_more has counts =
        counts_like (λ x. IsPastWith P left x ⊎ (x ≡ slot)) (IsPastWith P rest) (c + 1)
        (λ x. ⊎_elim (λ h. (h.0, still_past x h.1))
        (λ e. (subst P (sym e) has, λ h. past (subst (Contains rest) e h))))
        (λ x h. ⊎_elim (λ e. inr e) (λ ne. inl (h.0, past_before x ne h.1)) (cases_eq x slot))
        (counts_join (IsPastWith P left) (λ x. x ≡ slot) c 1
        (λ x h e. h.1 (member_same _ _ (sym is) x
        (subst (Contains (slot ∷ rest)) (sym e) (first_in slot rest))))
        counts (one_slot slot))

    -- no more
    pub counted_else : (P slot → ⊥) → Counts (IsPastWith P left) c → Counts (IsPastWith P rest) c
    counted_else hasnt counts =
        counts_like (IsPastWith P left) (IsPastWith P rest) c (λ x h. (h.0, still_past x h.1))
        (λ x h. (h.0, past_before x (λ e. hasnt (subst P e h.0)) h.1)) counts
