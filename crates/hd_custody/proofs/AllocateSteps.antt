-- The steps of an `allocate`.
use Rattle.hd_custody.proofs.Basics.{Acting, BANK, BLOCKS, Banked, CACHE, FIRST_QUICK, Fresh, Ghosts, HasRowsAs, KindIs, Kinded, List, Made, Offers, Phase, ROWS, Some, View, [], again, ap, arith, back, bank, banked, bit_at, bit_at-zero, bit_or, bit_xor, cell_kind, changed, cond, drained, found, found_or, held_times, is_step, look, looked, lowest, naming, next_phase, next_rows, probe, probe_word, put_out, refl, rest, restored, rows, set_bits, slice_get, subst, swapped, sym, to_bank, to_look, to_probe, went, with_slot, with_view, without, without_rows, ℕ, ◌*◌, ◌++◌, ◌+◌, ◌-◌, ◌/◌, ◌<◌, ◌==◌, ◌^◌, ◌∙◌, ◌∷◌, ◌≡◌, ◌≢◌, ◌≤◌}
use Rattle.hd_custody.proofs.HeldOnBlock.{Apart, rows_go, rows_none, naming_kinded, naming_rows, lowest_is, put_some, one_leaves, others_held, one_stays, with_slot_none}
use Rattle.hd_custody.proofs.CallPhases.{due, zero_is, zero_not, same_is, same_not, less_is, found_or_none, found_or_some, found_or_cond, made_none, one_step, seen_as, held_is, and_then, then_as}

pub set_real : (m r : ℕ) → bit_at m r ≡ 1 → m ≢ 0
set_real m r set none = let z = ap (λ n. bit_at n r) none ∙ bit_at-zero r in absurd (omega arith)

-- what was not held before some steps that left it so
pub offers_since : {W : Type 0} (m : Ghosts W) (n y : ℕ) {k blocks : ℕ} {p q : Phase} {a b : Acting W}
    → Made k blocks p q a.view.held a b → Offers m n b.view y → Offers m n a.view y
offers_since m n y so offers = subst (λ (x : Acting _). Offers m n x.view y) so.only offers

-- what came of a mask was not held
pub mask_apart : {W : Type 0} (m : Ghosts W) (v : View W) (b mask : ℕ)
    → ((r : ℕ) → r < ROWS → bit_at mask r ≡ 1 → Fresh m v (ROWS * b + r)) → Apart b mask v.held
mask_apart m v b mask fresh r lt set = (fresh r lt set).2

-- the slot of a row that came is of the kind, where its block was loaded so after it
pub row_offers : {W : Type 0} (m : Ghosts W) {k blocks : ℕ} {p q : Phase} {h : List (ℕ × ℕ)} {a b : Acting W}
    (block row y : ℕ) → row < ROWS → Made k blocks p q h a b → Fresh m a.view (ROWS * block + row)
    → KindIs m b.view block y → y ≡ k + 1 → Offers m k a.view (ROWS * block + row)
row_offers m {k} {blocks} {p} {q} {h} {a} block row y lt so fresh kind is ne =
    let there : block ≡ (ROWS * block + row) / ROWS = omega arith in
    let of_block = subst (λ (x : Acting _). KindIs m x.view block y) so.only kind in (
      fresh,
      λ u has took. subst (λ d. changed a.view.changes (m.kind u) d ≡ k + 1) there (of_block u has took ∙ is),
    )

module _ {W : Type 0} {k blocks : ℕ} where
  -- ---- the cache

  pub probe_step : (a b : Acting W) (n i y : ℕ) → n < CACHE → i ≡ probe_word k n → cell_kind i ≡ k
      → b ≡ with_view (swapped i y 0 a.view) a
      → Made k blocks (to_probe blocks n) (found_or (to_probe blocks (n + 1)) y)
      (with_slot y (k + 1) a.view.held) a b
  probe_step a b n i y lt e kind step =
      one_step (i, y, 0) (step ∙ ap (λ q. went (with_slot y (q + 1) a.view.held) ((i, y, 0) ∷ []) a) kind)
      (ap (λ p. next_phase k blocks p (i, y, 0)) (less_is n CACHE (probe n) (to_look blocks 1) lt)
      ∙ ap (λ j. next_phase k blocks (probe n) (j, y, 0)) e ∙ due (probe_word k n) y 0 _
      ∙ found_or_cond (to_probe blocks (n + 1)) y)

  pub came_none : (q : Phase) (y : ℕ) (h : List (ℕ × ℕ)) {p : Phase} {a b : Acting W} → y ≡ 0
      → Made k blocks p (found_or q y) (with_slot y (k + 1) h) a b → Made k blocks p q h a b
  came_none q y h none so = seen_as so (with_slot_none y (k + 1) h none) (found_or_none q y none)

  pub came_some : (q q' : Phase) (y : ℕ) {h : List (ℕ × ℕ)} {p : Phase} {a b : Acting W} → y ≢ 0
      → Made k blocks p (found_or q y) h a b → Made k blocks p (found_or q' y) h a b
  came_some q q' y real so = seen_as so refl (found_or_some q y real ∙ sym (found_or_some q' y real))

  -- ---- one block, of an `allocate` or a `gather`

  -- rows go back into the mask
  pub back_step : (c d : Acting W) (block mask there : ℕ) {p q : Phase}
      → next_phase k blocks p (BLOCKS + block, there, bit_or there mask) ≡ q
      → d ≡ with_view (restored (BLOCKS + block) mask there c.view) c
      → Made k blocks p q (without_rows block mask c.view.held) c d
  back_step c d block mask there next step =
      let block_is : BLOCKS + block - BLOCKS ≡ block = omega arith in
      one_step (BLOCKS + block, there, bit_or there mask)
      (step ∙ ap (λ e.
      went (without_rows e mask c.view.held) ((BLOCKS + block, there, bit_or there mask) ∷ []) c)
      block_is) next

  module _ (block : ℕ) (h : List (ℕ × ℕ)) (kinded : Kinded h) where
    -- the kind word is loaded, where no slot is without a kind
    pub first_look : (a b : Acting W) (y : ℕ) {p q : Phase} → a.view.held ≡ h
        → next_phase k blocks p (block, y, y) ≡ q → b ≡ with_view (looked block y a.view) a
        → Made k blocks p q h a b
    first_look a b y is next step =
        one_step (block, y, y) (step ∙ ap (λ g. went g ((block, y, y) ∷ []) a)
        (ap (naming block y) is ∙ naming_kinded block y h kinded)) next

    pub drain_step : (a b : Acting W) (mask : ℕ) {p q : Phase} → a.view.held ≡ h
        → next_phase k blocks p (BLOCKS + block, mask, 0) ≡ q
        → b ≡ with_view (drained (BLOCKS + block) mask a.view) a
        → Made k blocks p q (rows block mask 0 ++ h) a b
    drain_step a b mask is next step =
        let block_is : BLOCKS + block - BLOCKS ≡ block = omega arith in
        one_step (BLOCKS + block, mask, 0) (step
        ∙ ap (λ g. went (rows (BLOCKS + block - BLOCKS) mask 0 ++ g) ((BLOCKS + block, mask, 0) ∷ []) a) is
        ∙ ap (λ d. went (rows d mask 0 ++ h) ((BLOCKS + block, mask, 0) ∷ []) a) block_is) next

    -- and after its mask gave rows
    pub second_look : (a b : Acting W) (mask y : ℕ) {p q : Phase} → a.view.held ≡ rows block mask 0 ++ h
        → next_phase k blocks p (block, y, y) ≡ q → b ≡ with_view (looked block y a.view) a
        → Made k blocks p q (rows block mask y ++ h) a b
    second_look a b mask y is next step =
        one_step (block, y, y) (step ∙ ap (λ g. went g ((block, y, y) ∷ []) a)
        (ap (naming block y) is ∙ naming_rows block mask y h kinded)) next

  pub rows_back : (b c : Acting W) (block mask y there : ℕ) (h : List (ℕ × ℕ)) {p q r : Phase} {a : Acting W}
      → Apart block mask h → Made k blocks p q (rows block mask y ++ h) a b
      → next_phase k blocks q (BLOCKS + block, there, bit_or there mask) ≡ r
      → c ≡ with_view (restored (BLOCKS + block) mask there b.view) b → Made k blocks p r h a c
  rows_back b c block mask y there h apart so next step =
      seen_as (then_as (without_rows block mask) so (back_step b c block mask there next step))
      (rows_go block mask y h apart) refl

  pub look_again : (b c : Acting W) (block mask y : ℕ) (h : List (ℕ × ℕ)) {p : Phase} {a : Acting W}
      → Kinded h → mask ≢ 0
      → Made k blocks p (cond (mask == 0) (to_look blocks (block + 1)) (again block mask))
      (rows block mask 0 ++ h) a b → c ≡ with_view (looked block y b.view) b
      → Made k blocks p (cond (y == k + 1) (to_bank block (ROWS * block + lowest mask) 0 (next_rows mask))
      (back block mask)) (rows block mask y ++ h) a c
  look_again b c block mask y h kinded real so step =
      and_then (seen_as so refl (zero_not mask _ _ real))
      (second_look block h kinded b c mask y (held_is so) (due block y y _) step)

  -- ---- the rows of a block go into the reserve cells

  pub banked_none : (b i m : ℕ) (a : Acting W) → HasRowsAs b m (k + 1) a.view.held
      → Banked k blocks b (i, m) (i, m) a a
  banked_none b i m a has = record { has = has; left = refl; made = λ x. made_none (to_bank b x i m) a }

  pub banked_more : {b : ℕ} {from at to : ℕ × ℕ} {a c d : Acting W} → Banked k blocks b from at a c
      → Banked k blocks b at to c d → Banked k blocks b from to a d
  banked_more so more = record {
    has = more.has;
    left = more.left ∙ so.left;
    made = λ x. and_then (so.made x) (more.made x);
  }

  -- no row is left
  pub banked_all : (b i m : ℕ) (a : Acting W) → HasRowsAs b m (k + 1) a.view.held → m ≡ 0
      → Banked k blocks b (i, m) (i + 1, m) a a
  banked_all b i m a has none = record {
    has = has;
    left = refl;
    made = λ x. seen_as (made_none (to_bank b x i m) a) refl (zero_is m _ _ none ∙ sym (zero_is m _ _ none));
  }

module _ {W : Type 0} (k blocks : ℕ) where
  module _ (a c : Acting W) (b i left next word y : ℕ) (lt : i < BANK)
      (has : HasRowsAs b left (k + 1) a.view.held)
      (set : bit_at left next ≡ 1) (within : next < ROWS) (first : Some next ≡ slice_get (set_bits left) 0)
      (word_is : word ≡ FIRST_QUICK + 1 + CACHE * k + i)
      (step : c ≡ with_view (banked word y (ROWS * b + next) a.view) a)
    where
      bank_due : (x : ℕ)
          → next_phase k blocks (to_bank b x i left) (word, y, cond (y == 0) (ROWS * b + next) y) ≡
          to_bank b x (i + 1) (cond (y == 0) (bit_xor left (2 ^ next)) left)
      bank_due x =
          ap (λ p. next_phase k blocks p (word, y, cond (y == 0) (ROWS * b + next) y))
          (zero_not left _ _ (set_real left next set) ∙ less_is i BANK (bank b x i left) (rest b x left) lt)
          ∙ ap (λ j. next_phase k blocks (bank b x i left) (j, y, cond (y == 0) (ROWS * b + next) y)) word_is
          ∙ ap (λ r. is_step (FIRST_QUICK + 1 + CACHE * k + i, y, cond (y == 0) (ROWS * b + next) y)
          (FIRST_QUICK + 1 + CACHE * k + i)
          (cond (y == 0) (ROWS * b + r) y) (to_bank b x (i + 1) (cond (y == 0) (bit_xor left (2 ^ r)) left)))
          (lowest_is left next first)
          ∙ due (FIRST_QUICK + 1 + CACHE * k + i) y (cond (y == 0) (ROWS * b + next) y) _

      offer_step : (x : ℕ) {h : List (ℕ × ℕ)} {m : ℕ}
          → cond (y == 0) (put_out (ROWS * b + next) a.view.held) a.view.held
          ≡ h → cond (y == 0) (bit_xor left (2 ^ next)) left ≡ m
          → Made k blocks (to_bank b x i left) (to_bank b x (i + 1) m) h a c
      offer_step x held is =
          one_step (word, y, cond (y == 0) (ROWS * b + next) y)
          (step ∙ ap (λ h. went h ((word, y, cond (y == 0) (ROWS * b + next) y) ∷ []) a) held)
          (bank_due x ∙ ap (to_bank b x (i + 1)) is)

      pub offer_full : y ≢ 0 → Banked k blocks b (i, left) (i + 1, left) a c
      offer_full full =
          let so : (x : ℕ) → Made k blocks (to_bank b x i left) (to_bank b x (i + 1) left) a.view.held a c =
          λ x. offer_step x (zero_not y _ _ full) (zero_not y _ _ full) in
          let same = sym (held_is (so 0)) in record {
            has = subst (HasRowsAs b left (k + 1)) same has;
            left = ap (without_rows b left) (sym same);
            made = λ x. seen_as (so x) same refl;
          }

      pub offer_put : y ≡ 0 → 0 < b → Banked k blocks b (i, left) (i + 1, bit_xor left (2 ^ next)) a c
      offer_put empty real =
          let so : (x : ℕ)
          → Made k blocks (to_bank b x i left) (to_bank b x (i + 1) (bit_xor left (2 ^ next)))
          (without (ROWS * b + next) a.view.held) a c =
          λ x. offer_step x (zero_is y _ _ empty ∙ put_some (ROWS * b + next) a.view.held (λ e. omega arith))
          (zero_is y _ _ empty) in
          let same = sym (held_is (so 0)) in record {
            has = subst (HasRowsAs b (bit_xor left (2 ^ next)) (k + 1)) same
                (others_held b left next (k + 1) a.view.held within has set);
            left = ap (without_rows b (bit_xor left (2 ^ next))) (sym same)
                ∙ one_leaves b left next a.view.held within set;
            made = λ x. seen_as (so x) same refl;
          }
