-- The steps on words from 257 on, and the load of a kind word, keep the rule and return what they should.
use Rattle.hd_custody.proofs.Basics.{Acting, Allows, BLOCKS, Belongs, Bool, Custodied, Every, FIRST_MASK, FIRST_QUICK, Fresh, Ghosts, Has, HasAs, HasRows, IsBlock, IsCell, KindIs, List, Me, Named, Numbers, Option, ROWS, Some, State, View, WORDS, [], and_right, ap, arith, banked, begun, bit_at, bit_at-lt, bit_at_or, bit_or, cases_eq, cell_kind, changed, cond, drained, drawn, eq-eqb, exchanged, false, get_or, held_times, inl, inr, keeps, kind_word, looked, named, named_by, naming, ne_eqb, not, one_if, put_in, put_out, refl, restored, returned, rows, seen, set, set-get_or, settled, step, stored, subst, suc, swapped, sym, true, weight, with_slot, without_rows, zero, ℕ, ◌%◌, ◌&&◌, ◌*◌, ◌++◌, ◌+◌, ◌-◌, ◌/◌, ◌<◌, ◌==◌, ◌^◌, ◌∙◌, ◌∷◌, ◌≡◌, ◌≢◌, ◌≤◌, ◌⊎◌}
use Rattle.std.proofs.lemmas.Nat.{or_lt}
use mathlib.Core.Option.{some, some-injective, some-ne-none}
use lib.ListN.{get_elem?}
use prog.Atomic.{either}
use Rattle.hd_custody.proofs.{WordTotals.hit, WordTotals.miss, ViewChange.reshaped, ViewChange.kept}
use Rattle.hd_custody.proofs.HeldSlots.{held_times_append, held_times_naming, held_times_kept, held_times_dropped, held_times_out, held_times_picks, has_member, every_append, every_filter, every_picks, every_naming}
use Rattle.hd_custody.proofs.SlotWeights.{weight_mask, weight_other, weight_cell, weight_zero, kind_word_is, named_kind, named_block, kind_small}
use Rattle.hd_custody.proofs.SlotSteps.{held_times_with_slot, held_times_put_other, held_times_put_same, every_put_out, every_with_slot, belongs, has_once, seen_once, slots_step}

-- a seat at a table, as its fields and as its value
pub same_table : {W : Type 0} {a b : Acting W} {m n : Named} → a ≡ b → b.table ≡ n.table → m ≡ n
    → a.table ≡ m.table
same_table seat same table =
    ap (λ (x : Acting _). x.table) seat ∙ same ∙ ap (λ (x : Named). x.table) (sym table)

-- ---- rows of a block that are held

one_bit : (b : ℕ) → b < 2 → one_if (b == 1) ≡ b
one_bit zero lt = refl
one_bit (suc zero) lt = refl
one_bit (suc (suc b)) lt = absurd (omega arith)

pub held_times_rows : (x b m k : ℕ) → x / ROWS ≡ b → held_times x (rows b m k) ≡ bit_at m (x % ROWS)
held_times_rows x b m k here =
    let at : ROWS * b + x % ROWS ≡ x = omega arith in
    subst (λ y. held_times y (rows b m k) ≡ bit_at m (x % ROWS)) at
    (held_times_picks (λ r. bit_at m r == 1) (ROWS * b) (λ _. k) ROWS (x % ROWS) (omega arith)
    ∙ one_bit _ (bit_at-lt m (x % ROWS)))

pub held_times_rows_other : (x b m k : ℕ) → x / ROWS ≢ b → held_times x (rows b m k) ≡ 0
held_times_rows_other x b m k other =
    held_times_out (λ r. bit_at m r == 1) (ROWS * b) (λ _. k) ROWS x (λ r lt same. other (omega arith))

abbrev pub outside : ℕ → ℕ → ℕ → Bool
outside b m z = not ((z / ROWS == b) && (bit_at m (z % ROWS) == 1))

pub held_times_without : (x b m : ℕ) (held : List (ℕ × ℕ)) → x / ROWS ≡ b → bit_at m (x % ROWS) ≡ 1
    → held_times x (without_rows b m held) ≡ 0
held_times_without x b m held here set =
    held_times_dropped (outside b m) x held (ap (λ t. not (t && (bit_at m (x % ROWS) == 1))) (eq-eqb _ _ here)
    ∙ ap (λ t. not t) (eq-eqb _ _ set))

pub held_times_without_clear : (x b m : ℕ) (held : List (ℕ × ℕ)) → bit_at m (x % ROWS) ≢ 1
    → held_times x (without_rows b m held) ≡ held_times x held
held_times_without_clear x b m held clear =
    held_times_kept (outside b m) x held (ap not (and_right (x / ROWS == b) _ (ne_eqb _ _ clear)))

pub held_times_without_other : (x b m : ℕ) (held : List (ℕ × ℕ)) → x / ROWS ≢ b
    → held_times x (without_rows b m held) ≡ held_times x held
held_times_without_other x b m held other =
    held_times_kept (outside b m) x held (ap (λ t. not (t && (bit_at m (x % ROWS) == 1))) (ne_eqb _ _ other))

module _ {W : Type 0} {m : Ghosts W} {numbers : Numbers} {s : State (Option W) (View W)}
    (c : Custodied m numbers s) (id : ℕ) (v : View W) (there : get_elem? s.views id ≡ some v)
    (lives : v.is_spent ≡ false) where
  abbrev word : ℕ → ℕ
  word i = get_or s.words i 0

  -- ---- what the holder of the gate knows

  same_world : (u : W) → v.has_gate ≡ true → v.taken ≡ Some u → u ≡ c.world
  same_world u has took =
      let h = c.gate.holding id v there lives has in let e : Some u ≡ Some c.world = sym took ∙ h.2 in cc

  pub knows_dead : (x : ℕ) → m.live c.world x ≡ false → (u : W) → v.has_gate ≡ true → v.taken ≡ Some u
      → m.live u x ≡ false
  knows_dead x dead u has took = ap (λ z. m.live z x) (same_world u has took) ∙ dead

  pub knows_kind : (b : ℕ) → 0 < b → b < FIRST_MASK → KindIs m v b (word b)
  knows_kind b low lt u has took =
      let h = c.gate.holding id v there lives has in
      ap (λ cs. changed cs (m.kind u) b) h.3 ∙ ap (λ z. changed c.changes (m.kind z) b)
      (same_world u has took) ∙ sym (c.kinds b low lt)

  pub fresh_at : (x i : ℕ) → ROWS ≤ x → i < WORDS → 1 ≤ weight x i (word i) → Fresh m v x
  fresh_at x i low within weighs =
      let once = seen_once (m.live c.world) s.words s.views c.slots id v there lives x i low
      (subst (λ n. i < n) (sym c.wide) within) weighs in
      (low, once.3, once.0, knows_dead x once.1)

  -- ---- the steps, and the views they leave, with any trace

  module _ (t : List (ℕ × ℕ × ℕ)) (k : ℕ) (e gated : Bool) where
    abbrev shaped : List (ℕ × ℕ) → View W
    shaped h = reshaped h t k e gated v

    abbrev Kept : ℕ → ℕ → List (ℕ × ℕ) → Type 0
    Kept i n h = Custodied m numbers (record {
      words = set s.words i n;
      homes = s.homes;
      views = set s.views id (shaped h);
    })

    moved : (i n : ℕ) (h : List (ℕ × ℕ)) → FIRST_MASK ≤ i → i < WORDS
        → ((x : ℕ) → ROWS ≤ x → weight x i n + held_times x h ≡ weight x i (word i) + held_times x v.held)
        → (FIRST_QUICK ≤ i → n ≢ 0 → (ROWS ≤ n) × (kind_word s.words (n / ROWS) ≡ cell_kind i + 1))
        → (i < FIRST_QUICK → n < (2 ^ ROWS)) → Every (Belongs s.words) h → Kept i n h
    moved i n h low within moves cell mask held =
        kept c id v there h t k e gated i n low
        (slots_step (m.live c.world) s.words s.views c.slots id v there lives (shaped h) lives i n low
        (subst (λ n. i < n) (sym c.wide) within) moves cell mask held)

    -- nothing but what is held and the trace changes, and each slot stays
    pub still : (h : List (ℕ × ℕ)) → ((x : ℕ) → ROWS ≤ x → held_times x h ≡ held_times x v.held)
        → Every (Belongs s.words) h → (i : ℕ) → Kept i (word i) h
    still h same held i =
        let last = moved (WORDS - 1) (word (WORDS - 1)) h (omega arith) (omega arith)
        (λ x le. ap (λ n. weight x (WORDS - 1) (word (WORDS - 1)) + n) (same x le))
        (λ le ne. c.slots.cells (WORDS - 1) le ne) (λ lt. absurd (omega arith)) held in
        let P : List ℕ → Type 0 = λ ws. Custodied m numbers (record {
          words = ws;
          homes = s.homes;
          views = set s.views id (shaped h);
        }) in
        subst P (sym (set-get_or s.words i 0)) (subst P (set-get_or s.words (WORDS - 1) 0) last)

    module _ (i n : ℕ) (cell : FIRST_QUICK ≤ i) (within : i < WORDS)
        (has : n ≢ 0 → HasAs (n, cell_kind i + 1) v.held)
      where
        put_cell : n ≢ 0 → (ROWS ≤ n) × (kind_word s.words (n / ROWS) ≡ cell_kind i + 1)
        put_cell ne =
            let b = belongs (m.live c.world) s.words s.views c.slots id v there lives (n, cell_kind i + 1)
            (has ne) in
            (b.0, b.2 (λ z. omega arith))

        put_once : (x : ℕ) → ROWS ≤ x → x ≡ n → held_times x v.held ≡ 1
        put_once x low same =
            let at = has (λ z. omega arith) in
            let mine : Has x v.held = subst (λ y. Has y v.held) (sym same)
            (has_member v.held at.0 (n, cell_kind i + 1) at.1) in
            (has_once (m.live c.world) s.words s.views c.slots id v there lives x i
            (subst (λ n. i < n) (sym c.wide) within) mine).0

        abbrev put_on : ℕ → List (ℕ × ℕ)
        put_on y = with_slot y (cell_kind i + 1) (put_out n v.held)

        put_moves : (y : ℕ) → y ≡ word i → (x : ℕ) → ROWS ≤ x → (x ≡ n) ⊎ (x ≢ n)
            → weight x i n + held_times x (put_on y) ≡ weight x i (word i) + held_times x v.held
        put_moves y is x low (inl same) =
            let a = weight_cell x i n cell in
            let b = weight_cell x i (word i) cell in
            let one = hit n x (sym same) in
            let come = held_times_with_slot x y (cell_kind i + 1) (put_out n v.held) (omega arith) in
            let out = held_times_put_same x n v.held (omega arith) same in
            let was = put_once x low same in
            let word_is : one_if (y == x) ≡ one_if (word i == x) = ap (λ z. one_if (z == x)) is in
            omega arith
        put_moves y is x low (inr other) =
            let a = weight_cell x i n cell in
            let b = weight_cell x i (word i) cell in
            let none = miss n x (λ z. other (sym z)) in
            let come = held_times_with_slot x y (cell_kind i + 1) (put_out n v.held) (omega arith) in
            let out = held_times_put_other x n v.held other in
            let word_is : one_if (y == x) ≡ one_if (word i == x) = ap (λ z. one_if (z == x)) is in
            omega arith

        come_belongs : word i ≢ 0 → Belongs s.words (word i, cell_kind i + 1)
        come_belongs ne =
            let h = c.slots.cells i cell ne in
            let small = kind_small i within in
            (h.0, ap named h.1 ∙ named_kind (cell_kind i + 1) (omega arith) (omega arith), λ _. h.1)

        pub swaps : Kept i n (put_on (word i))
        swaps =
            moved i n (put_on (word i)) (omega arith) within (λ x low. put_moves (word i) refl x low
            (cases_eq x n)) (λ _. put_cell) (λ lt. absurd (omega arith))
            (every_with_slot (Belongs s.words) (word i) (cell_kind i + 1) (put_out n v.held) come_belongs
            (every_put_out (Belongs s.words) n v.held (c.slots.held id v there lives)))

        pub swap_shows : word i ≢ 0 → Fresh m v (word i) × KindIs m v (word i / ROWS) (cell_kind i + 1)
        swap_shows ne =
            let h = come_belongs ne in
            let b = named_block s.words (word i / ROWS) h.1 in
            let is = sym (kind_word_is s.words (word i / ROWS) b) ∙ h.2 (λ z. omega arith) in
            let weighs : 1 ≤ weight (word i) i (word i) =
            (let a = weight_cell (word i) i (word i) cell in let one =
            hit (word i) (word i) refl in omega arith) in (
              fresh_at (word i) i h.0 within weighs,
              λ u has took. knows_kind (word i / ROWS) (omega arith) b u has took ∙ is,
            )

        pub banks : (b : Bool) → (word i == 0) ≡ b → Kept i (either b n (word i))
            (cond b (put_out n v.held) v.held)
        banks true is =
            let z : word i ≡ 0 = Rattle.std.proofs.lemmas.Bool.eqb-true (word i) 0 is in
            moved i n (put_out n v.held) (omega arith) within (λ x low. put_moves 0 (sym z) x low
            (cases_eq x n)) (λ _. put_cell) (λ lt. absurd (omega arith))
            (every_put_out (Belongs s.words) n v.held (c.slots.held id v there lives))
        banks false is = still v.held (λ x low. refl) (c.slots.held id v there lives) i

    pub looks : (b : ℕ) → 0 < b → b < FIRST_MASK → Kept b (word b) (naming b (word b) v.held)
    looks b low lt =
        still (naming b (word b) v.held) (λ x _. held_times_naming x b (word b) v.held)
        (every_naming (Belongs s.words) b (word b) v.held
        (λ n p at. named_in p (c.slots.held id v there lives n p at) (cases_eq (p.0 / ROWS) b)
        (cases_eq p.1 0))) b
      where
        named_in : (p : ℕ × ℕ) → Belongs s.words p → (p.0 / ROWS ≡ b) ⊎ (p.0 / ROWS ≢ b)
            → (p.1 ≡ 0) ⊎ (p.1 ≢ 0) → Belongs s.words (named_by b (word b) p)
        named_in p h (inl here) (inl none) =
            let is : (named_by b (word b) p).1 ≡ word b = ap (λ t. cond (t && (p.1 == 0)) (word b) p.1)
            (eq-eqb _ _ here) ∙ ap (λ t. cond t (word b) p.1) (eq-eqb _ _ none) in
            (h.0, h.1, λ _. ap (kind_word s.words) here ∙ kind_word_is s.words b lt ∙ sym is)
        named_in p h (inl here) (inr ne) =
            let is : (named_by b (word b) p).1 ≡ p.1 =
            ap (λ t. cond t (word b) p.1) (and_right (p.0 / ROWS == b) _ (ne_eqb _ _ ne)) in
            (h.0, h.1, λ _. h.2 ne ∙ sym is)
        named_in p h (inr other) _ =
            let is : (named_by b (word b) p).1 ≡ p.1 = ap (λ t. cond (t && (p.1 == 0)) (word b) p.1)
            (ne_eqb _ _ other) in
            (h.0, h.1, λ ne. h.2 (λ z. ne (is ∙ z)) ∙ sym is)

    module _ (i : ℕ) (low : FIRST_MASK ≤ i) (lt : i < FIRST_QUICK) where
      abbrev b : ℕ
      b = i - BLOCKS

      row_weighs : (r : ℕ) → r < ROWS → bit_at (word i) r ≡ 1 → 1 ≤ weight (ROWS * b + r) i (word i)
      row_weighs r row set =
          let a = weight_mask (ROWS * b + r) i (word i) low lt (omega arith) in
          let at : (ROWS * b + r) % ROWS ≡ r = omega arith in
          let is : bit_at (word i) ((ROWS * b + r) % ROWS) ≡ 1 = ap (bit_at (word i)) at ∙ set in
          omega arith

      pub row_fresh : (r : ℕ) → r < ROWS → bit_at (word i) r ≡ 1 → Fresh m v (ROWS * b + r)
      row_fresh r row set = fresh_at (ROWS * b + r) i (omega arith) (omega arith) (row_weighs r row set)

      drain_moves : (x : ℕ) → ROWS ≤ x → (x / ROWS + BLOCKS ≡ i) ⊎ (x / ROWS + BLOCKS ≢ i)
          → weight x i 0 + held_times x (rows b (word i) 0 ++ v.held)
          ≡ weight x i (word i) + held_times x v.held
      drain_moves x real (inl here) =
          let z = weight_zero x i real in
          let a = weight_mask x i (word i) low lt here in
          let j = held_times_append x (rows b (word i) 0) v.held in
          let r = held_times_rows x b (word i) 0 (omega arith) in
          omega arith
      drain_moves x real (inr other) =
          let z = weight_zero x i real in
          let a = weight_other x i (word i) low lt other in
          let j = held_times_append x (rows b (word i) 0) v.held in
          let r = held_times_rows_other x b (word i) 0 (λ e. other (omega arith)) in
          omega arith

      row_belongs : (r : ℕ) → r < ROWS → (bit_at (word i) r == 1) ≡ true → Belongs s.words (ROWS * b + r, 0)
      row_belongs r row set =
          let is = Rattle.std.proofs.lemmas.Bool.eqb-true (bit_at (word i) r) 1 set in
          let once = seen_once (m.live c.world) s.words s.views c.slots id v there lives (ROWS * b + r) i
          (omega arith) (subst (λ n. i < n) (sym c.wide) (omega arith)) (row_weighs r row is) in
          (omega arith, once.2, λ ne. absurd (ne refl))

      pub drains : Kept i 0 (rows b (word i) 0 ++ v.held)
      drains =
          moved i 0 (rows b (word i) 0 ++ v.held) low (omega arith)
          (λ x real. drain_moves x real (cases_eq (x / ROWS + BLOCKS) i)) (λ le ne. absurd (ne refl))
          (λ _. omega arith)
          (every_append (Belongs s.words) (rows b (word i) 0) v.held
          (every_picks (Belongs s.words) ROWS (λ r. bit_at (word i) r == 1) (ROWS * b) (λ _. 0) row_belongs)
          (c.slots.held id v there lives))

      module _ (mask : ℕ) (fits : mask < (2 ^ ROWS)) (has : HasRows b mask v.held) where
        back_moves : (x : ℕ) → ROWS ≤ x → (x / ROWS + BLOCKS ≡ i) ⊎ (x / ROWS + BLOCKS ≢ i)
            → (bit_at mask (x % ROWS) ≡ 1) ⊎ (bit_at mask (x % ROWS) ≢ 1)
            → weight x i (bit_or (word i) mask) + held_times x (without_rows b mask v.held) ≡ weight x i
            (word i) + held_times x v.held
        back_moves x real (inl here) (inl set) =
            let a = weight_mask x i (word i) low lt here in
            let n = weight_mask x i (bit_or (word i) mask) low lt here in
            let o = bit_at_or (word i) mask (x % ROWS) in
            let at : ROWS * b + x % ROWS ≡ x = omega arith in
            let mine : Has x v.held = subst (λ y. Has y v.held) at (has (x % ROWS) (omega arith) set) in
            let once = has_once (m.live c.world) s.words s.views c.slots id v there lives x i
            (subst (λ n. i < n) (sym c.wide) (omega arith)) mine in
            let out = held_times_without x b mask v.held (omega arith) set in
            let one = once.0 in
            let none = once.1 in
            omega arith
        back_moves x real (inl here) (inr clear) =
            let a = weight_mask x i (word i) low lt here in
            let n = weight_mask x i (bit_or (word i) mask) low lt here in
            let o = bit_at_or (word i) mask (x % ROWS) in
            let bit = bit_at-lt mask (x % ROWS) in
            let none : bit_at mask (x % ROWS) ≡ 0 = omega arith in
            let out = held_times_without_clear x b mask v.held clear in
            omega arith
        back_moves x real (inr other) _ =
            let a = weight_other x i (word i) low lt other in
            let n = weight_other x i (bit_or (word i) mask) low lt other in
            let out = held_times_without_other x b mask v.held (λ e. other (omega arith)) in
            omega arith

        pub backs : Kept i (bit_or (word i) mask) (without_rows b mask v.held)
        backs =
            moved i (bit_or (word i) mask) (without_rows b mask v.held) low (omega arith)
            (λ x real. back_moves x real (cases_eq (x / ROWS + BLOCKS) i)
            (cases_eq (bit_at mask (x % ROWS)) 1)) (λ le ne. absurd (omega arith))
            (λ _. or_lt ROWS (word i) mask (c.slots.masks i low lt) fits)
            (every_filter (Belongs s.words) (λ p. outside b mask p.0) v.held (c.slots.held id v there lives))

-- ---- each as a step of the table

-- what is required of the slots held, by the value of the seat
pub as_seen : {W : Type 0} (P : List (ℕ × ℕ) → Type 0) {a b : Acting W} → a ≡ b → P b.view.held
    → P a.view.held
as_seen P is = subst (λ (x : Acting _). P x.view.held) (sym is)

module _ {W : Type 0} (m : Ghosts W) (numbers : Numbers) (slots id : ℕ) (v : View W)
    (carried : List (ℕ × Option W)) (lives : v.is_spent ≡ false) where
  abbrev Steps : ℕ → (ℕ → ℕ) → (ℕ → Me (Option W) (View W) → Type 0) → Type 0
  Steps = Allows (Custodied m numbers) slots id (v, carried)

  pub exchange_steps : (i n : ℕ) → IsCell i → (n ≢ 0 → HasAs (n, cell_kind i + 1) v.held)
      → Steps i (λ _. n) (exchanged m (λ u. u) (step slots i n 0 mathlib.Core.Option.none) (v, carried))
  exchange_steps i n cell has s c len at small = (
    swapped i (get_or s.words i 0) n v,
    keeps,
    tt,
    swaps c id v at lives (v.trace ++ (i, get_or s.words i 0, n) ∷ []) v.trace_number
        v.began_empty v.began_with_gate i n cell.0 cell.1 has,
    (refl, swap_shows c id v at lives [] 0 true false i n cell.0 cell.1 has),
  )

  pub begin_steps : (i n : ℕ) → IsCell i → (n ≢ 0 → HasAs (n, cell_kind i + 1) v.held)
      → Steps i (λ _. n) (exchanged m begun (step slots i n 0 mathlib.Core.Option.none) (v, carried))
  begin_steps i n cell has s c len at small = (
    swapped i (get_or s.words i 0) n (begun v),
    keeps,
    tt,
    swaps c id v at lives ((i, get_or s.words i 0, n) ∷ []) (v.trace_number + 1)
        (Rattle.hd_custody.specs.Counts.is_nil v.held) v.has_gate i n cell.0 cell.1 has,
    (refl, swap_shows c id v at lives [] 0 true false i n cell.0 cell.1 has),
  )

  pub bank_steps : (i n : ℕ) → IsCell i → (n ≢ 0 → HasAs (n, cell_kind i + 1) v.held)
      → Steps i (λ y. either (y == 0) n y) (stored m (step slots i 0 n mathlib.Core.Option.none) (v, carried))
  bank_steps i n cell has s c len at small =
      let y = get_or s.words i 0 in (
        banked i y n v,
        keeps,
        tt,
        banks c id v at lives (v.trace ++ (i, y, cond (y == 0) n y) ∷ []) v.trace_number
            v.began_empty v.began_with_gate i n cell.0 cell.1 has (y == 0) refl,
        refl,
      )

  pub look_steps : (b : ℕ) → IsBlock b → Steps b (λ y. y)
      (seen m (step slots b 0 0 mathlib.Core.Option.none) (v, carried))
  look_steps b block s c len at small =
      let y = get_or s.words b 0 in (
        looked b y v,
        keeps,
        tt,
        looks c id v at lives (v.trace ++ (b, y, y) ∷ []) v.trace_number v.began_empty v.began_with_gate b
            block.0 block.1,
        (refl, knows_kind c id v at lives b block.0 block.1),
      )

  pub drain_steps : (i : ℕ) → FIRST_MASK ≤ i → i < FIRST_QUICK → Steps i (λ _. 0)
      (drawn m (step slots i 0 0 mathlib.Core.Option.none) (v, carried))
  drain_steps i low lt s c len at small =
      let y = get_or s.words i 0 in (
        drained i y v,
        keeps,
        tt,
        drains c id v at lives (v.trace ++ (i, y, 0) ∷ []) v.trace_number v.began_empty v.began_with_gate i low lt,
        (refl, row_fresh c id v at lives [] 0 true false i low lt),
      )

  pub return_steps : (i block mask : ℕ) → i ≡ BLOCKS + block → IsBlock block → mask < (2 ^ ROWS)
      → HasRows block mask v.held
      → Steps i (λ y. bit_or y mask) (returned m (step slots i mask 0 mathlib.Core.Option.none) (v, carried))
  return_steps i block mask is real fits has s c len at small =
      let y = get_or s.words i 0 in (
        restored i mask y v,
        keeps,
        tt,
        backs c id v at lives (v.trace ++ (i, y, bit_or y mask) ∷ []) v.trace_number v.began_empty
            v.began_with_gate i (omega arith) (omega arith) mask fits
            (subst (λ d. HasRows d mask v.held) (let e : block ≡ i - BLOCKS = omega arith in e) has),
        refl,
      )

  pub put_in_steps : (i block mask : ℕ) → i ≡ BLOCKS + block → IsBlock block → mask < (2 ^ ROWS)
      → HasRows block mask v.held
      → Steps i (λ y. bit_or y mask) (settled m (step slots i mask 0 mathlib.Core.Option.none) (v, carried))
  put_in_steps i block mask is real fits has s c len at small = (
    put_in i mask v,
    keeps,
    tt,
    backs c id v at lives v.trace v.trace_number v.began_empty v.began_with_gate i (omega arith) (omega arith)
        mask fits
        (subst (λ d. HasRows d mask v.held) (let e : block ≡ i - BLOCKS = omega arith in e) has),
    refl,
  )
