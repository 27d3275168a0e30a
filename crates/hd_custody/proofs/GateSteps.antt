-- The gate's own steps, and the stores of kind words by its holder.
use Rattle.hd_custody.proofs.Basics.{Belongs, Bool, Custodied, EXTRA_DATA, Entered, Every, FIRST_MASK, FIRST_QUICK, Ghosts, Has, Holds, List, Numbers, Option, ROWS, Slots, Some, State, View, WORDS, [], and_right, ap, arith, at_set, cases_eq, cell_kind, changed, cond, eq-eqb, false, false_from_ne_true, get_or, get_or-set_other, get_or-set_same, held_by, held_times, inl, inr, kind_word, length, length-set, named, nat_lt, ne_eqb, one_if, opened, refl, room_of, set, subst, sym, took, total, total_at, true, weight, whole, ℕ, ◌%◌, ◌&&◌, ◌*◌, ◌++◌, ◌+◌, ◌/◌, ◌<◌, ◌^◌, ◌∙◌, ◌∷◌, ◌≡◌, ◌≢◌, ◌≤◌, ◌⊎◌}
use mathlib.Core.Option.{some, none}
use lib.ListN.{get_elem?}
use Rattle.hd_custody.proofs.WordTotals.{total_set, total_member, total_at_set}
use Rattle.hd_custody.proofs.HeldSlots.{held_times_append, held_times_out, held_times_picks, has_member, every_append, every_picks}
use Rattle.hd_custody.proofs.SlotWeights.{weight_low, kind_word_is, kind_word_set, named_kind, named_none, named_block, mask_empty}
use Rattle.hd_custody.proofs.{SlotSteps.held_alive, SlotSteps.has_once, ViewChange.place_there, ViewChange.seats_alike, JournalPrefixes.whole_prefix}

-- ---- a step on a word below 257

module _ {W : Type 0} (live : ℕ → Bool) (words : List ℕ) (views : List (View W)) (s : Slots live words views)
    (id : ℕ) (v : View W) (there : get_elem? views id ≡ some v) (lives : v.is_spent ≡ false)
    (wide : length words ≡ WORDS) (i n : ℕ) (low : i < FIRST_MASK) (live' : ℕ → Bool) (w : View W)
    (lives' : w.is_spent ≡ false) where
  abbrev words' : List ℕ
  words' = set words i n

  abbrev Same : ℕ → Type 0
  Same x = kind_word words' (x / ROWS) ≡ kind_word words (x / ROWS)

  module _
      (moves : (x : ℕ) → ROWS ≤ x
      → held_times x w.held + one_if (live' x) + named (kind_word words (x / ROWS)) ≡
      held_times x v.held + one_if (live x) + named (kind_word words' (x / ROWS)))
      (cells : (j : ℕ) → FIRST_QUICK ≤ j → get_or words j 0 ≢ 0 → Same (get_or words j 0))
      (others : (j : ℕ) (u : View W) → j ≢ id → get_elem? views j ≡ some u → u.is_spent ≡ false
      → Every (λ p. Same p.0) u.held)
      (held : Every (Belongs words') w.held) where
    one_place : (x : ℕ) → ROWS ≤ x
        → total_at (weight x) 0 words' + total (held_by x) (set views id w) + one_if
        (live' x) ≡ named (kind_word words' (x / ROWS))
    one_place x real =
        let one = s.in_one_place x real in
        let word = total_at_set (weight x) words 0 i i n (omega arith) (omega arith) in
        let a = weight_low x i n low in
        let b = weight_low x i (get_or words i 0) low in
        let seats = total_set (held_by x) views id v w there in
        let was = held_alive x v lives in
        let now = held_alive x w lives' in
        let move = moves x real in
        omega arith

    other_word : (j : ℕ) → FIRST_MASK ≤ j → get_or words' j 0 ≡ get_or words j 0
    other_word j le = get_or-set_other words i j n 0 (λ e. omega arith)

    cell_at : (j : ℕ) → FIRST_QUICK ≤ j → get_or words' j 0 ≢ 0 → (ROWS ≤ get_or words' j 0)
        × (kind_word words' (get_or words' j 0 / ROWS) ≡ cell_kind j + 1)
    cell_at j le ne =
        let is = other_word j (omega arith) in
        let h = s.cells j le (λ e. ne (is ∙ e)) in
        subst (λ a. (ROWS ≤ a) × (kind_word words' (a / ROWS) ≡ cell_kind j + 1)) (sym is)
        (h.0, cells j le (λ e. ne (is ∙ e)) ∙ h.1)

    held_at : (j : ℕ) (u : View W) → u.is_spent ≡ false → ((j ≡ id) × (w ≡ u))
        ⊎ ((j ≢ id) × (get_elem? views j ≡ some u)) → Every (Belongs words') u.held
    held_at j u alive (inl here) c p e = held c p (ap (λ (z : View W). get_elem? z.held c) here.1 ∙ e)
    held_at j u alive (inr other) c p e =
        let h = s.held j u other.1 alive c p e in
        let same = others j u other.0 other.1 alive c p e in
        (h.0, ap named same ∙ h.1, λ ne. same ∙ h.2 ne)

    pub slots_low : Slots live' words' (set views id w)
    slots_low = record {
      in_one_place = one_place;
      cells = cell_at;
      held = λ j u e alive. held_at j u alive (at_set views id j w u e);
      masks = λ j le lt. subst (λ a. a < (2 ^ ROWS)) (sym (other_word j le)) (s.masks j le lt);
      empty_masks = mask_empty words' (λ x. total (held_by x) (set views id w) + one_if (live' x))
          (λ x real. (let one = one_place x real in omega arith))
          (λ j le lt. subst (λ a. a < (2 ^ ROWS)) (sym (other_word j le)) (s.masks j le lt));
    }

module _ {W : Type 0} {m : Ghosts W} {numbers : Numbers} {s : State (Option W) (View W)}
    (c : Custodied m numbers s) (id : ℕ) (v : View W) (there : get_elem? s.views id ≡ some v)
    (lives : v.is_spent ≡ false) where
  abbrev word : ℕ → ℕ
  word i = get_or s.words i 0

  -- a store into the gate word leaves the kind words of all slots
  pub gate_kinds : (n x : ℕ) → ROWS ≤ x
      → kind_word (set s.words 0 n) (x / ROWS) ≡ kind_word s.words (x / ROWS)
  gate_kinds n x real = kind_word_set s.words (x / ROWS) 0 n (λ e. omega arith)

  pub cell_real : (j : ℕ) → FIRST_QUICK ≤ j → word j ≢ 0 → ROWS ≤ word j
  cell_real j le ne = (c.slots.cells j le ne).0

  pub others_real : (n j : ℕ) (u : View W) → j ≢ id → get_elem? s.views j ≡ some u → u.is_spent ≡ false
      → Every (λ p. kind_word (set s.words 0 n) (p.0 / ROWS) ≡ kind_word s.words (p.0 / ROWS)) u.held
  others_real n j u other at alive k p e = gate_kinds n p.0 (c.slots.held j u at alive k p e).0

  pub belongs_gate : (n : ℕ) (p : ℕ × ℕ) → Belongs s.words p → Belongs (set s.words 0 n) p
  belongs_gate n p h = let same = gate_kinds n p.0 h.0 in (h.0, ap named same ∙ h.1, λ ne. same ∙ h.2 ne)

  pub kind_same : (n b : ℕ) → 0 < b → get_or (set s.words 0 n) b 0 ≡ word b
  kind_same n b real = get_or-set_other s.words 0 b n 0 (λ e. omega arith)

  -- ---- the gate is won

  module _ (free : word 0 ≡ 0) where
    stored_world : (s.homes ≡ some (Some c.world) ∷ []) × (c.changes ≡ [])
    stored_world = elim c.gate.free_or_held [
      | inl f ↦ (f.1, f.2)
      | inr h ↦ absurd (let one = h.0 in omega arith)
    ]

    won_holding : (j : ℕ) (u : View W) → u.is_spent ≡ false → ((j ≡ id) × (took m c.world v ≡ u))
        ⊎ ((j ≢ id) × (get_elem? s.views j ≡ some u)) → Holds (get_or (set s.words 0 1) 0 0) id c.world [] j u
    won_holding j u alive (inl here) has = (
      get_or-set_same s.words 0 1 0 (omega (arith, c.wide)),
      sym here.0,
      ap (λ (z : View W). z.taken) (sym here.1),
      ap (λ (z : View W). z.changes) (sym here.1),
    )
    won_holding j u alive (inr other) has = let h = c.gate.holding j u other.1 alive has in absurd (let one =
        h.0 in omega arith)

    pub won : Custodied m numbers (record {
      words = set s.words 0 1;
      homes = set s.homes 0 none;
      views = set s.views id (took m c.world v);
    })
    won = record {
      world = c.world;
      holder = id;
      changes = [];
      made = c.made;
      owner = c.owner;
      wide = length-set s.words 0 1 ∙ c.wide;
      sized = c.sized;
      gate = record {
        free_or_held = inr (
          get_or-set_same s.words 0 1 0 (omega (arith, c.wide)),
          record {
            view = took m c.world v;
            gone = ap (λ hs. set hs 0 none) stored_world.0;
            there = place_there s.views id v (took m c.world v) there;
            lives = lives;
            has = refl;
          },
        );
        holding = λ j u at alive. won_holding j u alive (at_set s.views id j (took m c.world v) u at);
      };
      seats = seats_alike s.views id v there v.held v.trace v.trace_number v.began_empty v.began_with_gate true
          (v.gate_steps + 1) (Some c.world) [] (m.journal c.world) c.made c.owner _ _ numbers c.seats
          (λ _. whole_prefix (m.journal c.world));
      kinds = λ b real lt. kind_same 1 b real ∙ c.kinds b real lt
          ∙ ap (λ cs. changed cs (m.kind c.world) b) stored_world.1;
      slots = slots_low (m.live c.world) s.words s.views c.slots id v there lives c.wide 0 1 (omega arith)
          (m.live c.world) (took m c.world v) lives
          (λ x real. ap (λ n. held_times x v.held + one_if (m.live c.world x) + named n)
          (sym (gate_kinds 1 x real)))
          (λ j le ne. gate_kinds 1 (word j) (cell_real j le ne)) (others_real 1)
          (λ k p e. belongs_gate 1 p (c.slots.held id v there lives k p e));
      sound = c.sound;
    }

    dead_at : (p : ℕ × ℕ) → Belongs s.words p → Has p.0 v.held → (m.live c.world p.0 ≡ false)
        × (p.1 ≢ 0 → m.kind c.world (p.0 / ROWS) ≡ p.1)
    dead_at p h has =
        let once = has_once (m.live c.world) s.words s.views c.slots id v there lives p.0 0
        (omega (arith, c.wide)) has in
        let block = named_block s.words (p.0 / ROWS) h.1 in
        let at : 0 < p.0 / ROWS = (let real = h.0 in omega arith) in (
          once.2,
          λ ne. sym (c.kinds (p.0 / ROWS) at block
              ∙ ap (λ cs. changed cs (m.kind c.world) (p.0 / ROWS)) stored_world.1)
              ∙ sym (kind_word_is s.words (p.0 / ROWS) block) ∙ h.2 ne,
        )

    pub learned : Entered m v c.world
    learned =
        let f = c.seats.each id v there lives in record {
          had_not = false_from_ne_true v.has_gate
              (λ has. (let h = c.gate.holding id v there lives has in omega (arith, h.0, free)));
          part = sym f.own_part;
          goes_on = f.has_seen;
          room = (let r = total_member room_of s.views id v there in let is : room_of v ≡ v.room =
              ap (λ b. cond b 0 v.room) lives in let most = c.seats.roomy in omega arith);
          sized = c.sized ∙ sym f.sized;
          held = λ k p e. dead_at p (c.slots.held id v there lives k p e) (has_member v.held k p e);
          sound = c.sound;
        }

  -- ---- what the holder knows

  module _ (has : v.has_gate ≡ true) where
    pub mine : (word 0 ≡ 1) × (c.holder ≡ id) × (v.taken ≡ Some c.world) × (v.changes ≡ c.changes)
    mine = c.gate.holding id v there lives has

    pub away : s.homes ≡ none ∷ []
    away = elim c.gate.free_or_held [
      | inl f ↦ absurd (let z = f.0 in let one = mine.0 in omega arith)
      | inr h ↦ h.1.gone
    ]

    pub alone_holds : (j : ℕ) (u : View W) → j ≢ id → get_elem? s.views j ≡ some u → u.is_spent ≡ false
        → u.has_gate ≡ true → ⊥
    alone_holds j u other at alive his = other (sym (c.gate.holding j u at alive his).1 ∙ mine.1)

    -- a store of a kind word of a block with none, or of 0
    module _ (b k : ℕ) (real : 0 < b) (lt : b < FIRST_MASK) (held : List (ℕ × ℕ)) where
      abbrev stores : View W
      stores = record v { changes = (b, k) ∷ v.changes; held = held }

      store_holding : (j : ℕ) (u : View W) → u.is_spent ≡ false → ((j ≡ id) × (stores ≡ u))
          ⊎ ((j ≢ id) × (get_elem? s.views j ≡ some u))
          → Holds (get_or (set s.words b k) 0 0) id c.world ((b, k) ∷ c.changes) j u
      store_holding j u alive (inl here) his = (
        get_or-set_other s.words b 0 k 0 (λ e. omega arith) ∙ mine.0,
        sym here.0,
        ap (λ (z : View W). z.taken) (sym here.1) ∙ mine.2,
        ap (λ (z : View W). z.changes) (sym here.1) ∙ ap (λ cs. (b, k) ∷ cs) mine.3,
      )
      store_holding j u alive (inr other) his = absurd (alone_holds j u other.0 other.1 alive his)

      store_kind : (d : ℕ) → 0 < d → d < FIRST_MASK → (d ≡ b) ⊎ (d ≢ b)
          → get_or (set s.words b k) d 0 ≡ changed ((b, k) ∷ c.changes) (m.kind c.world) d
      store_kind d low under (inl same) =
          ap (λ j. get_or (set s.words b k) j 0) same ∙ get_or-set_same s.words b k 0 (omega (arith, c.wide))
          ∙ sym (ap (λ t. cond t k (changed c.changes (m.kind c.world) d)) (eq-eqb b d (sym same)))
      store_kind d low under (inr other) =
          get_or-set_other s.words b d k 0 other ∙ c.kinds d low under
          ∙ sym (ap (λ t. cond t k (changed c.changes (m.kind c.world) d)) (ne_eqb b d (λ e. other (sym e))))

      pub storing : Slots (m.live c.world) (set s.words b k) (set s.views id stores)
          → Custodied m numbers (record {
            words = set s.words b k;
            homes = s.homes;
            views = set s.views id stores;
          })
      storing slots = record {
        world = c.world;
        holder = id;
        changes = (b, k) ∷ c.changes;
        made = c.made;
        owner = c.owner;
        wide = length-set s.words b k ∙ c.wide;
        sized = c.sized;
        gate = record {
          free_or_held = inr (
            get_or-set_other s.words b 0 k 0 (λ e. omega arith) ∙ mine.0,
            record {
              view = stores;
              gone = away;
              there = place_there s.views id v stores there;
              lives = lives;
              has = has;
            },
          );
          holding = λ j u at alive. store_holding j u alive (at_set s.views id j stores u at);
        };
        seats = seats_alike s.views id v there held v.trace v.trace_number v.began_empty v.began_with_gate
            v.has_gate v.gate_steps v.taken ((b, k) ∷ v.changes) v.seen c.made c.owner _ _ numbers c.seats
            (λ alive. (c.seats.each id v there alive).has_seen);
        kinds = λ d low under. store_kind d low under (cases_eq d b);
        slots = slots;
        sound = c.sound;
      }

      pub word_here : (x : ℕ) → x / ROWS ≡ b → kind_word (set s.words b k) (x / ROWS) ≡ k
      word_here x here =
          ap (kind_word (set s.words b k)) here ∙ kind_word_is (set s.words b k) b lt
          ∙ get_or-set_same s.words b k 0 (omega (arith, c.wide))

      pub word_other : (x : ℕ) → x / ROWS ≢ b → kind_word (set s.words b k) (x / ROWS) ≡ kind_word s.words
          (x / ROWS)
      word_other x other = kind_word_set s.words (x / ROWS) b k other

      pub old_belongs : (p : ℕ × ℕ) → p.0 / ROWS ≢ b → Belongs s.words p → Belongs (set s.words b k) p
      old_belongs p other h = let same = word_other p.0 other in (
        h.0,
        ap named same ∙ h.1,
        λ ne. same ∙ h.2 ne,
      )

      -- of a kind, where it had none
      module _ (some_kind : 0 < k) (empty : word b ≡ 0) where
        none_here : (x : ℕ) → x / ROWS ≡ b → named (kind_word s.words (x / ROWS)) ≡ 0
        none_here x here = named_none _ (ap (kind_word s.words) here ∙ kind_word_is s.words b lt ∙ empty)

        not_here : (x : ℕ) → named (kind_word s.words (x / ROWS)) ≡ 1 → x / ROWS ≢ b
        not_here x one here = let z = none_here x here in omega arith

        pub held_none : (x : ℕ) → ROWS ≤ x → x / ROWS ≡ b → (held_times x v.held ≡ 0)
            × (one_if (m.live c.world x) ≡ 0)
        held_none x low here =
            let one = c.slots.in_one_place x low in
            let z = none_here x here in
            let h = total_member (held_by x) s.views id v there in
            let is = held_alive x v lives in
            (omega arith, omega arith)

        come : Bool → List (ℕ × ℕ)
        come t = cond t (whole b k ++ v.held) v.held

        whole_here : (x : ℕ) → x / ROWS ≡ b → held_times x (whole b k) ≡ 1
        whole_here x here =
            let at : ROWS * b + x % ROWS ≡ x = omega arith in
            subst (λ y. held_times y (whole b k) ≡ 1) at
            (held_times_picks (λ _. true) (ROWS * b) (λ _. k) ROWS (x % ROWS) (omega arith))

        whole_other : (x : ℕ) → x / ROWS ≢ b → held_times x (whole b k) ≡ 0
        whole_other x other = held_times_out (λ _. true) (ROWS * b) (λ _. k) ROWS x
            (λ r under same. other (omega arith))

        cells_stay : (j : ℕ) → FIRST_QUICK ≤ j → word j ≢ 0
            → kind_word (set s.words b k) (word j / ROWS) ≡ kind_word s.words (word j / ROWS)
        cells_stay j le ne =
            let h = c.slots.cells j le ne in
            word_other (word j) (λ here. let z = ap (kind_word s.words) here ∙ kind_word_is s.words b lt
            ∙ empty in let is = h.1 in absurd (omega (arith, sym is ∙ z)))

        others_stay : (j : ℕ) (u : View W) → j ≢ id → get_elem? s.views j ≡ some u → u.is_spent ≡ false
            → Every (λ p. kind_word (set s.words b k) (p.0 / ROWS) ≡ kind_word s.words (p.0 / ROWS)) u.held
        others_stay j u other at alive n p e = word_other p.0
            (not_here p.0 (c.slots.held j u at alive n p e).1)

        own_stay : Every (Belongs (set s.words b k)) v.held
        own_stay n p e = let h = c.slots.held id v there lives n p e in old_belongs p (not_here p.0 h.1) h

        row_belongs : k < EXTRA_DATA → (r : ℕ) → r < ROWS → true ≡ true
            → Belongs (set s.words b k) (ROWS * b + r, k)
        row_belongs few r row _ =
            let here : (ROWS * b + r) / ROWS ≡ b = omega arith in (
              omega arith,
              ap named (word_here (ROWS * b + r) here) ∙ named_kind k some_kind few,
              λ _. word_here (ROWS * b + r) here,
            )

module _ {W : Type 0} {m : Ghosts W} {numbers : Numbers} {s : State (Option W) (View W)}
    (c : Custodied m numbers s) (id : ℕ) (v : View W) (there : get_elem? s.views id ≡ some v)
    (lives : v.is_spent ≡ false) (has : v.has_gate ≡ true)
    (b k : ℕ) (real : 0 < b) (lt : b < FIRST_MASK) where
  module _ (some_kind : 0 < k) (empty : get_or s.words b 0 ≡ 0) where
    open_moves : (t : Bool) → (t ≡ true → k < EXTRA_DATA) → (t ≡ false → named k ≡ 0) → (x : ℕ) → ROWS ≤ x
        → (x / ROWS ≡ b) ⊎ (x / ROWS ≢ b)
        → held_times x (cond t (whole b k ++ v.held) v.held) + one_if (m.live c.world x) + named
        (kind_word s.words (x / ROWS))
        ≡ held_times x v.held + one_if (m.live c.world x) + named (kind_word (set s.words b k) (x / ROWS))
    open_moves true few extra x low (inl here) =
        let w = ap named (word_here c id v there lives has b k real lt v.held x here)
        ∙ named_kind k some_kind (few refl) in
        let j = held_times_append x (whole b k) v.held in
        let a = whole_here c id v there lives has b k real lt v.held some_kind empty x here in
        let z = none_here c id v there lives has b k real lt v.held some_kind empty x here in
        omega arith
    open_moves true few extra x low (inr other) =
        let w = ap named (word_other c id v there lives has b k real lt v.held x other) in
        let j = held_times_append x (whole b k) v.held in
        let a = whole_other c id v there lives has b k real lt v.held some_kind empty x other in
        omega arith
    open_moves false few extra x low (inl here) =
        let w = ap named (word_here c id v there lives has b k real lt v.held x here) ∙ extra refl in
        let z = none_here c id v there lives has b k real lt v.held some_kind empty x here in
        omega arith
    open_moves false few extra x low (inr other) =
        let w = ap named (word_other c id v there lives has b k real lt v.held x other) in
        omega arith

    open_held : (t : Bool) → (t ≡ true → k < EXTRA_DATA) → Every (Belongs (set s.words b k))
        (cond t (whole b k ++ v.held) v.held)
    open_held true few =
        every_append (Belongs (set s.words b k)) (whole b k) v.held
        (every_picks (Belongs (set s.words b k)) ROWS (λ _. true) (ROWS * b) (λ _. k)
        (row_belongs c id v there lives has b k real lt v.held some_kind empty (few refl)))
        (own_stay c id v there lives has b k real lt v.held some_kind empty)
    open_held false few = own_stay c id v there lives has b k real lt v.held some_kind empty

    opens_at : (t : Bool) → (t ≡ true → k < EXTRA_DATA) → (t ≡ false → named k ≡ 0)
        → Custodied m numbers (record {
          words = set s.words b k;
          homes = s.homes;
          views =
              set s.views id (record v {
                changes = (b, k) ∷ v.changes;
                held = cond t (whole b k ++ v.held) v.held;
              });
        })
    opens_at t few extra =
        let held = cond t (whole b k ++ v.held) v.held in
        storing c id v there lives has b k real lt held
        (slots_low (m.live c.world) s.words s.views c.slots id v there lives c.wide b k lt (m.live c.world)
        (record v { changes = (b, k) ∷ v.changes; held = held }) lives
        (λ x low. open_moves t few extra x low (cases_eq (x / ROWS) b))
        (cells_stay c id v there lives has b k real lt v.held some_kind empty)
        (others_stay c id v there lives has b k real lt v.held some_kind empty)
        (open_held t few))

    pub opens : Custodied m numbers (record {
      words = set s.words b k;
      homes = s.homes;
      views = set s.views id (opened b k v);
    })
    opens =
        opens_at (nat_lt k EXTRA_DATA) (λ e. Rattle.std.proofs.lemmas.Bool.ltb-true k EXTRA_DATA e)
        (λ e. ap (λ t. cond (nat_lt 0 k && t) 1 0) e
        ∙ ap (λ t. cond t 1 0) (and_right (nat_lt 0 k) false refl))
