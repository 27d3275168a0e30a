-- The indexes of the handles that wait for a target, among all in the order of their targets.
use Rattle.hd_dep.proofs.Basics.{Addr, Bool, Grows, IsNonDecreasingBy, Leads, List, Some, Waiting, Waits, ap, arith, cases_eq, cases_lt, get_or, get_or_from_slice_get, inl, inr, length, slice_get, slice_get-get_or, slice_get_within, subst, sym, target_of, true, waiting_row, ℕ, ⊎_elim, ◌-◌, ◌<◌, ◌∙◌, ◌≡◌, ◌≤◌, ◌⊎◌}

module _ (E : Addr → Addr → Type 0) (rows : List Waiting) (x : Addr) (p : Addr → Bool) where
  -- those of target x from `at` on were promoted, and no target before is higher
  pub record IsPassing (at : ℕ) (q : Addr → Bool) : Type 0 where
    pub within : at ≤ length rows
    pub low : (k : ℕ) (d : Waiting) → k < at → target_of (get_or rows k d) ≤ x.0
    pub keeps : (z : Addr) → p z ≡ true → q z ≡ true
    pub joins : (k : ℕ) (d : Waiting) → at ≤ k → k < length rows → (get_or rows k d).target ≡ x
        → q (get_or rows k d).secondary ≡ true
    pub only : (z : Addr) → q z ≡ true → (p z ≡ true) ⊎ ((r : Addr) × (Waits rows x r × Leads E r z))

  pub passing_start : (at : ℕ) → at ≤ length rows
      → ((k : ℕ) (d : Waiting) → k < at → target_of (get_or rows k d) ≤ x.0)
      → ((k : ℕ) (d : Waiting) → at ≤ k → k < length rows → x.0 < target_of (get_or rows k d))
      → IsPassing at p
  passing_start at within low high = record {
    within = within;
    low = low;
    keeps = λ z h. h;
    joins = λ k d le lt is.
        let more = high k d le lt in let same = ap (λ (a : Addr). a.0) is in absurd (omega arith);
    only = λ z h. inl h;
  }

  pub passing_on : (at : ℕ) (y : Addr) (q r : Addr → Bool) → 0 < at
      → slice_get rows (at - 1) ≡ Some (waiting_row x y) → IsPassing at q → Grows E (λ z. z ≡ y) q r
      → IsPassing (at - 1) r
  passing_on at y q r some is pass grows = record {
    within = let w = pass.within in omega arith;
    low = λ k d lt. pass.low k d (omega arith);
    keeps = λ z h. grows.keeps z (pass.keeps z h);
    joins = λ k d le lt target. ⊎_elim
        (λ e. grows.joins (get_or rows k d).secondary
        (ap (λ j. (get_or rows j d).secondary) e
        ∙ ap (λ (w : Waiting). w.secondary) (get_or_from_slice_get rows (at - 1) (waiting_row x y) d is)))
        (λ ne. grows.keeps _ (pass.joins k d (omega arith) lt target)) (cases_eq k (at - 1));
    only = λ z h. ⊎_elim (λ earlier. pass.only z earlier)
        (λ (w : (s : Addr) × ((s ≡ y) × Leads E s z)). inr (
          w.0,
          (
            subst (λ s. Waits rows x s) (sym w.1.0) (
              at - 1,
              slice_get_within rows (at - 1) (waiting_row x y) is,
              get_or_from_slice_get rows (at - 1) (waiting_row x y) (waiting_row x y) is,
            ),
            w.1.1,
          ),
        ))
        (grows.only z h);
  }

  -- where the last before `at` does not wait for x, none before it does
  pub passed : IsNonDecreasingBy target_of rows → (at : ℕ) (q : Addr → Bool)
      → ((y : Addr) → 0 < at → slice_get rows (at - 1) ≡ Some (waiting_row x y) → ⊥) → IsPassing at q
      → Grows E (Waits rows x) p q
  passed rising at q none pass = record {
    keeps = pass.keeps;
    joins = λ y waits.
        let (k, lt, is) = waits in
        let d : Waiting = waiting_row x y in
        ⊎_elim
        (λ before. absurd (none (get_or rows (at - 1) d).secondary (omega arith)
        (let last : Waiting = get_or rows (at - 1) d in
        let w = pass.within in
        let up = rising k (at - 1) d (omega arith) (omega arith) in
        let here = ap target_of is in
        let top = pass.low (at - 1) d (omega arith) in
        let same : target_of last ≡ x.0 = omega arith in
        slice_get-get_or rows (at - 1) d (omega arith)
        ∙ (λ i. Some (record { target = record { 0 = same i }; secondary = last.secondary })))))
        (λ after. subst (λ (w : Waiting). q w.secondary ≡ true) is
        (pass.joins k d after lt (ap (λ (w : Waiting). w.target) is)))
        (cases_lt k at);
    only = pass.only;
  }
