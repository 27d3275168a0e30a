-- The gate given back, and the store of 0 into a kind word.
use Rattle.hd_custody.proofs.Basics.{Allows, BLOCKS, Belongs, Bool, Continues, Custodied, Entry, Every, FIRST_MASK, FIRST_QUICK, Fits, Follows, Ghosts, Has, Holds, IsPrefix, List, Me, Numbers, Option, ROWS, Seats, Some, Sorted, State, View, WORDS, [], and_parts, ap, arith, assigned, at_set, cases_eq, cases_lt, changed, cleared, closed, cond, entered, eq-eqb, false, filter, gave_back, get_or, get_or-set_same, gives, held_by, held_times, inl, inr, keeps, kind_word, left, length, length-append, length-set, named, ne_eqb, not, not-true, one_if, opened, part_of, picks, refl, room_of, same_Some, set, step, subst, suc, sym, takes, tally, took, total, true, weight, without_block, zero, ℕ, ◌%◌, ◌&&◌, ◌*◌, ◌++◌, ◌+◌, ◌-◌, ◌/◌, ◌<◌, ◌==◌, ◌∙◌, ◌∷◌, ◌≡◌, ◌≢◌, ◌≤◌, ◌⊎◌}
use mathlib.Core.Option.{some, none, some-injective, some-ne-none}
use lib.ListN.{get_elem?}
use Rattle.hd_custody.specs.Counts.{slot_count}
use Rattle.hd_custody.proofs.WordTotals.{hit, total_set, total_member, total_two}
use Rattle.hd_custody.proofs.HeldSlots.{true_false, held_times_append, held_times_kept, held_times_dropped, held_times_out, held_times_picks, has_member, every_append, every_filter, every_picks, every_cons}
use Rattle.hd_custody.proofs.SlotWeights.{weight_low, weight_cell, kind_word_is, kind_word_out, kind_word_set, named_kind, named_none, named_most, named_block, off_of}
use Rattle.hd_custody.proofs.SlotSteps.{held_alive, has_named, has_once, placed}
use Rattle.hd_custody.proofs.{ViewChange.fits_as, ViewChange.kept_set, JournalPrefixes.whole_prefix, JournalPrefixes.prefix_goes_on}
use Rattle.hd_custody.proofs.GateSteps.{slots_low, gate_kinds, cell_real, others_real, belongs_gate, kind_same, won, learned, mine, away, alone_holds, storing, word_here, word_other, old_belongs, held_none, opens}

-- what holds of each that passes a test
pub every_passed : (P Q : ℕ × ℕ → Type 0) (keep : ℕ × ℕ → Bool) (held : List (ℕ × ℕ))
    → ((p : ℕ × ℕ) → keep p ≡ true → Q p → P p) → Every Q held → Every P (filter keep held)
every_passed P Q keep [] step h = λ n p e. absurd (some-ne-none p (sym e))
every_passed P Q keep (p ∷ ps) step h = at (keep p) refl (every_passed P Q keep ps step (λ n. h (suc n)))
  where
    at : (b : Bool) → keep p ≡ b → Every P (filter keep ps)
        → Every P (cond b (p ∷ filter keep ps) (filter keep ps))
    at true e rest = every_cons P p _ (step p e (h zero p refl)) rest
    at false e rest = rest

-- ---- the part of a caller

module _ (number : ℕ) (journal : List Entry) where
  pub part_same : (e : Entry) (n : ℕ) → e.caller ≢ n → part_of (journal ++ e ∷ []) n ≡ part_of journal n
  part_same e n other = at journal
    where
      rest : filter (λ (x : Entry). x.caller == n) (e ∷ []) ≡ []
      rest = ap (λ b. cond b (e ∷ []) []) (ne_eqb e.caller n other)

      at : (xs : List Entry) → part_of (xs ++ e ∷ []) n ≡ part_of xs n
      at [] = rest
      at (x ∷ xs) = ap (λ ys. cond (x.caller == n) (x ∷ ys) ys) (at xs)

pub part_goes_on : (number room : ℕ) (before : List Entry) (spare : ℕ) (journal : List Entry) (spare' : ℕ)
    → Continues number room before spare journal spare'
    → (n : ℕ) → n ≢ number → part_of journal n ≡ part_of before n
part_goes_on number room before spare journal spare' (inl same) n other = ap (λ j. part_of j n) same.0
part_goes_on number room before spare journal spare' (inr more) n other =
    ap (λ j. part_of j n) more.1 ∙ part_same number before more.0 n (λ e. other (sym e ∙ more.2))

pub room_goes_on : (number room : ℕ) (before : List Entry) (spare : ℕ) (journal : List Entry) (spare' : ℕ)
    → Continues number room before spare journal spare'
    → (all : ℕ) → room + all ≤ spare → room - (length journal - length before) + all ≤ spare'
room_goes_on number room before spare journal spare' (inl same) all most =
    let l : length journal ≡ length before = ap length same.0 in let e = same.1 in omega arith
room_goes_on number room before spare journal spare' (inr more) all most =
    let l : length journal ≡ length before + 1 = ap length more.1 ∙ length-append before (more.0 ∷ [])
    ∙ omega arith in
    let e = more.3 in let some_room = more.4 in omega arith

module _ {W : Type 0} {m : Ghosts W} {numbers : Numbers} {s : State (Option W) (View W)}
    (c : Custodied m numbers s) (id : ℕ) (v : View W) (there : get_elem? s.views id ≡ some v)
    (lives : v.is_spent ≡ false) (has : v.has_gate ≡ true) where
  abbrev before : W
  before = c.world

  know : (get_or s.words 0 0 ≡ 1) × (c.holder ≡ id) × (v.taken ≡ Some c.world) × (v.changes ≡ c.changes)
  know = mine c id v there lives has

  -- what the holder knows of a block's kind word
  kind_of_word : (b : ℕ) → 0 < b → b < FIRST_MASK → get_or s.words b 0 ≡ changed v.changes (m.kind before) b
  kind_of_word b real lt = c.kinds b real lt ∙ ap (λ cs. changed cs (m.kind before) b) (sym know.3)

  -- ---- the gate is given back with w

  module _ (w : W) (f : Follows m before w v) where
    abbrev given_back : View W
    given_back = gave_back m before w v

    abbrev words' : List ℕ
    words' = set s.words 0 0

    fits : Fits c.made c.owner (m.journal before) numbers id v
    fits = c.seats.each id v there lives

    part_stays : (n : ℕ) → n ≢ v.number → part_of (m.journal w) n ≡ part_of (m.journal before) n
    part_stays = part_goes_on v.number v.room (m.journal before) (m.spare before) (m.journal w)
        (m.spare w) f.goes_on

    -- what was seen of the journal is so still
    sees : (front : List Entry) → IsPrefix front (m.journal before) → IsPrefix front (m.journal w)
    sees front = prefix_goes_on v.number v.room (m.journal before) (m.spare before) (m.journal w)
        (m.spare w) f.goes_on front

    apart : (n j : ℕ) → c.owner n ≡ j → j ≢ suc id → n ≢ v.number
    apart n j is other same = other (sym is ∙ ap c.owner same ∙ fits.owned)

    fits_at : (j : ℕ) (u : View W) → u.is_spent ≡ false → ((j ≡ id) × (given_back ≡ u))
        ⊎ ((j ≢ id) × (get_elem? s.views j ≡ some u)) → Fits c.made c.owner (m.journal w) numbers j u
    fits_at j u alive (inl here) =
        let own : Fits c.made c.owner (m.journal w) numbers id given_back = record {
          low = fits.low;
          owned = fits.owned;
          own_part = refl;
          has_seen = whole_prefix (m.journal w);
          knows = fits.knows;
          alone = fits.alone;
          ended_parts = λ k e at. (let h = fits.ended_parts k e at in (
            h.0,
            h.1,
            h.2 ∙ sym (part_stays e.0 (apart e.0 0 h.1 (λ z. omega arith))),
            sees e.2 h.3,
          ));
          sized = fits.sized;
        } in
        fits_as own here
    fits_at j u alive (inr other) =
        let h = c.seats.each j u other.1 alive in record {
          low = h.low;
          owned = h.owned;
          own_part = h.own_part ∙ sym (part_stays u.number
              (apart u.number (suc j) h.owned (λ z. other.0 (omega arith))));
          has_seen = sees u.seen h.has_seen;
          knows = h.knows;
          alone = h.alone;
          ended_parts = λ k e at. (let g = h.ended_parts k e at in (
            g.0,
            g.1,
            g.2 ∙ sym (part_stays e.0 (apart e.0 0 g.1 (λ z. omega arith))),
            sees e.2 g.3,
          ));
          sized = h.sized;
        }

    seats' : Seats c.made c.owner (m.journal w) (m.spare w) numbers (set s.views id given_back)
    seats' = record {
      each = λ j u at alive. fits_at j u alive (at_set s.views id j given_back u at);
      begun = c.seats.begun;
      unmade = λ n le. (let low = fits.low in part_stays n (λ e. omega arith) ∙ c.seats.unmade n le);
      counted =
          (let k = total_set tally s.views id v given_back there in let d = c.seats.counted in omega arith);
      kept = λ n lt.
          (let a = c.seats.kept n lt in kept_set s.views id v given_back there (λ n h. h) n a.0 a.1 a.2 a.3);
      roomy = (
          let k = total_set room_of s.views id v given_back there in
          let is : room_of v ≡ v.room = ap (λ b. cond b 0 v.room) lives in
          let now : room_of given_back ≡ given_back.room = ap (λ b. cond b 0 given_back.room) lives in
          let most = total_member room_of s.views id v there in
          let d = c.seats.roomy in
          let rest : ℕ = total room_of s.views - v.room in
          let goes = room_goes_on v.number v.room (m.journal before) (m.spare before) (m.journal w)
          (m.spare w) f.goes_on rest (omega arith) in
          omega arith);
    }

    abbrev ends : ℕ → Bool
    ends r = m.live before (ROWS + r) && not (m.live w (ROWS + r))

    abbrev ended : List (ℕ × ℕ)
    ended = picks slot_count ends ROWS (λ r. m.kind w ((ROWS + r) / ROWS))

    live_low : (x : ℕ) → ROWS ≤ x → m.live before x ≡ true → (x < (ROWS * (BLOCKS + 1)))
        × (named (kind_word s.words (x / ROWS)) ≡ 1) × (held_times x v.held ≡ 0)
    live_low x real is =
        let most = placed (m.live before) s.words s.views c.slots id v there lives x 0 real
        (omega (arith, c.wide)) in
        let one : one_if (m.live before x) ≡ 1 = ap one_if is in
        let small = named_most (kind_word s.words (x / ROWS)) in
        let block = named_block s.words (x / ROWS) (omega arith) in
        (omega arith, omega arith, omega arith)

    ended_in : (x : ℕ) → ROWS ≤ x → (b : Bool) → (m.live before x && not (m.live w x)) ≡ b
        → (b ≡ true → x < (ROWS * (BLOCKS + 1))) → (x < (ROWS * (BLOCKS + 1))) ⊎ ((ROWS * (BLOCKS + 1)) ≤ x)
        → held_times x ended ≡ one_if b
    unfolding slot_count
    ended_in x real b is under (inl lt) =
        let at : ROWS + (x - ROWS) ≡ x = omega arith in
        subst (λ y. held_times y ended ≡ one_if b) at
        (held_times_picks ends ROWS (λ r. m.kind w ((ROWS + r) / ROWS)) slot_count (x - ROWS) (omega arith)
        ∙ ap (λ y. one_if (m.live before y && not (m.live w y))) at ∙ ap one_if is)
    ended_in x real true is under (inr le) = absurd (let lt = under refl in omega arith)
    ended_in x real false is under (inr le) =
        held_times_out ends ROWS (λ r. m.kind w ((ROWS + r) / ROWS)) slot_count x (λ r lt e. omega arith)

    stays : ℕ → Bool
    stays x = not (m.live w x)

    count : (x : ℕ) → ROWS ≤ x → (a b : Bool) → m.live before x ≡ a → m.live w x ≡ b
        → held_times x given_back.held + one_if b ≡ held_times x v.held + one_if a
    count x real a b was is =
        let j = held_times_append x (filter (λ p. not (m.live w p.0)) v.held) ended in
        let e = ended_in x real (a && not b) (ap (λ t. t && not (m.live w x)) was ∙ ap (λ t. a && not t) is)
        (under a b was) (cases_lt x (ROWS * (BLOCKS + 1))) in
        omega (arith, j, e, both a b was is)
      where
        under : (a b : Bool) → m.live before x ≡ a → (a && not b) ≡ true → x < (ROWS * (BLOCKS + 1))
        under true b was e = (live_low x real was).0
        under false b was e = cc

        both : (a b : Bool) → m.live before x ≡ a → m.live w x ≡ b
            → held_times x (filter (λ p. not (m.live w p.0)) v.held) + one_if (a && not b) + one_if b
            ≡ held_times x v.held + one_if a
        both true true was is =
            let out = held_times_dropped (λ y. not (m.live w y)) x v.held (ap not is) in
            let none = (live_low x real was).2 in omega arith
        both true false was is = let kept =
            held_times_kept (λ y. not (m.live w y)) x v.held (ap not is) in omega arith
        both false true was is =
            let out = held_times_dropped (λ y. not (m.live w y)) x v.held (ap not is) in
            let got : Has x v.held = elim (f.lives x real is) [
              | inl t ↦ absurd (true_false (m.live before x) t was)
              | inr h ↦ h
            ] in
            let once = (has_once (m.live before) s.words s.views c.slots id v there lives x 0
            (omega (arith, c.wide)) got).0 in
            omega arith
        both false false was is = let kept = held_times_kept (λ y. not (m.live w y)) x v.held
            (ap not is) in omega arith

    kind_back : (b : ℕ) → 0 < b → b < FIRST_MASK → get_or s.words b 0 ≡ m.kind w b
    kind_back b real lt = kind_of_word b real lt ∙ sym (f.kinds b real lt)

    pub sorts : Sorted m before w
    sorts x real is =
        let h = live_low x real is in
        let lt = named_block s.words (x / ROWS) h.1 in
        ap named (sym (kind_word_is s.words (x / ROWS) lt ∙ kind_back (x / ROWS) (omega arith) lt)) ∙ h.1

    ended_belongs : (r : ℕ) → r < slot_count → ends r ≡ true
        → Belongs words' (ROWS + r, m.kind w ((ROWS + r) / ROWS))
    ended_belongs r _ e =
        let is : m.live before (ROWS + r) ≡ true = (and_parts _ _ e).0 in
        let h = live_low (ROWS + r) (omega arith) is in
        let lt = named_block s.words ((ROWS + r) / ROWS) h.1 in
        let same = gate_kinds c id v there lives 0 (ROWS + r) (omega arith) in (
          omega arith,
          ap named same ∙ h.1,
          λ _. same ∙ kind_word_is s.words ((ROWS + r) / ROWS) lt
              ∙ kind_back ((ROWS + r) / ROWS) (omega arith) lt,
        )

    back_holding : (j : ℕ) (u : View W) → u.is_spent ≡ false → ((j ≡ id) × (given_back ≡ u))
        ⊎ ((j ≢ id) × (get_elem? s.views j ≡ some u)) → Holds (get_or words' 0 0) c.holder w [] j u
    back_holding j u alive (inl here) his = absurd
        (true_false u.has_gate his (ap (λ (z : View W). z.has_gate) (sym here.1)))
    back_holding j u alive (inr other) his = absurd (alone_holds c id v there lives has j u
        other.0 other.1 alive his)

    pub gives_back : Custodied m numbers (record {
      words = words';
      homes = set s.homes 0 (some (Some w));
      views = set s.views id given_back;
    })
    gives_back = record {
      world = w;
      holder = c.holder;
      changes = [];
      made = c.made;
      owner = c.owner;
      wide = length-set s.words 0 0 ∙ c.wide;
      sized = f.sized ∙ fits.sized;
      gate = record {
        free_or_held = inl (
          get_or-set_same s.words 0 0 0 (omega (arith, c.wide)),
          ap (λ hs. set hs 0 (some (Some w))) (away c id v there lives has),
          refl,
        );
        holding = λ j u at alive. back_holding j u alive (at_set s.views id j given_back u at);
      };
      seats = seats';
      kinds = λ b real lt. kind_same c id v there lives 0 b real ∙ kind_back b real lt;
      slots = slots_low (m.live before) s.words s.views c.slots id v there lives c.wide 0 0 (omega arith)
          (m.live w) given_back lives
          (λ x real. (let n = count x real (m.live before x) (m.live w x) refl refl in let k =
          ap named (gate_kinds c id v there lives 0 x real) in omega arith))
          (λ j le ne. gate_kinds c id v there lives 0 (get_or s.words j 0)
          (cell_real c id v there lives j le ne))
          (others_real c id v there lives 0)
          (every_append (Belongs words') _ ended
          (every_filter (Belongs words') (λ p. not (m.live w p.0)) v.held
          (λ k p e. belongs_gate c id v there lives 0 p
          (c.slots.held id v there lives k p e)))
          (every_picks (Belongs words') slot_count ends ROWS (λ r. m.kind w ((ROWS + r) / ROWS))
          ended_belongs));
      sound = f.sound;
    }

  -- ---- a store of 0 into the kind word of a block whose slots are all held

  module _ (b : ℕ) (real : 0 < b) (lt : b < FIRST_MASK)
      (all : (r : ℕ) → r < ROWS → Has (ROWS * b + r) v.held) where
    abbrev zeroed : List ℕ
    zeroed = set s.words b 0

    abbrev bare : List (ℕ × ℕ)
    bare = without_block b v.held

    got : (x : ℕ) → x / ROWS ≡ b → Has x v.held
    got x here = let at : ROWS * b + x % ROWS ≡ x = omega arith in subst (λ y. Has y v.held) at
        (all (x % ROWS) (omega arith))

    once_here : (x i : ℕ) → i < WORDS → x / ROWS ≡ b → (held_times x v.held ≡ 1)
        × (weight x i (get_or s.words i 0) ≡ 0) × (m.live before x ≡ false)
    once_here x i under here = has_once (m.live before) s.words s.views c.slots id v there lives x i
        (subst (λ n. i < n) (sym c.wide) under) (got x here)

    close_moves : (x : ℕ) → ROWS ≤ x → (x / ROWS ≡ b) ⊎ (x / ROWS ≢ b)
        → held_times x bare + one_if (m.live before x) + named (kind_word s.words (x / ROWS))
        ≡ held_times x v.held + one_if (m.live before x) + named (kind_word zeroed (x / ROWS))
    close_moves x low (inl here) =
        let out = held_times_dropped (λ y. not (y / ROWS == b)) x v.held (ap not (eq-eqb _ _ here)) in
        let w = ap named (word_here c id v there lives has b 0 real lt bare x here) in
        let one = (has_named (m.live before) s.words s.views c.slots id v there lives x (got x here)).1 in
        let once = (once_here x 0 (omega arith) here).0 in
        omega arith
    close_moves x low (inr other) =
        let kept = held_times_kept (λ y. not (y / ROWS == b)) x v.held (ap not (ne_eqb _ _ other)) in
        let w = ap named (word_other c id v there lives has b 0 real lt bare x other) in
        omega arith

    close_cells : (j : ℕ) → FIRST_QUICK ≤ j → get_or s.words j 0 ≢ 0
        → kind_word zeroed (get_or s.words j 0 / ROWS) ≡ kind_word s.words (get_or s.words j 0 / ROWS)
    close_cells j le ne = word_other c id v there lives has b 0 real lt bare (get_or s.words j 0)
        (λ here. elim (cases_lt j WORDS) [
          | inl under ↦ (
              let none = (once_here (get_or s.words j 0) j under here).1 in
              let one = weight_cell (get_or s.words j 0) j (get_or s.words j 0) le ∙ hit _ _ refl in
              omega arith)
          | inr over ↦ ne (Rattle.hd_custody.proofs.SlotWeights.past s.words j (omega (arith, c.wide)))
        ])

    close_others : (j : ℕ) (u : View W) → j ≢ id → get_elem? s.views j ≡ some u → u.is_spent ≡ false
        → Every (λ p. kind_word zeroed (p.0 / ROWS) ≡ kind_word s.words (p.0 / ROWS)) u.held
    close_others j u other at alive n p e = word_other c id v there lives has b 0 real lt bare p.0
        (λ here.
        let his = has_member u.held n p e in
        let is = held_alive p.0 u alive in
        let was = held_alive p.0 v lives in
        let once = (once_here p.0 0 (omega arith) here).0 in
        let two = total_two (held_by p.0) s.views j id u v at there other in
        let one = c.slots.in_one_place p.0 (c.slots.held j u at alive n p e).0 in
        let most = named_most (kind_word s.words (p.0 / ROWS)) in
        omega arith)

    close_held : Every (Belongs zeroed) bare
    close_held = every_passed (Belongs zeroed) (Belongs s.words) (λ p. not (p.0 / ROWS == b)) v.held
        (λ p keep h. old_belongs c id v there lives has b 0 real lt bare p
        (λ here. true_false (p.0 / ROWS == b) (eq-eqb _ _ here) (not-true _ keep)) h)
        (c.slots.held id v there lives)

    pub closes : Custodied m numbers (record {
      words = zeroed;
      homes = s.homes;
      views = set s.views id (closed b v);
    })
    closes =
        storing c id v there lives has b 0 real lt bare
        (slots_low (m.live before) s.words s.views c.slots id v there lives c.wide b 0 lt (m.live before)
        (closed b v) lives
        (λ x low. close_moves x low (cases_eq (x / ROWS) b)) close_cells close_others close_held)

abbrev value_of : {A : Type 0} → A → List (ℕ × A) → A
value_of d [] = d
value_of d (x ∷ xs) = x.1

-- ---- each as a step of the table

module _ {W : Type 0} (m : Ghosts W) (numbers : Numbers) (slots id : ℕ) (v : View W)
    (carried : List (ℕ × Option W)) (lives : v.is_spent ≡ false) where
  abbrev Steps : ℕ → (ℕ → ℕ) → (ℕ → Me (Option W) (View W) → Type 0) → Type 0
  Steps = Allows (Custodied m numbers) slots id (v, carried)

  pub enter_steps : Steps 0 (λ _. 1) (entered m (step slots 0 1 0 none) (v, carried))
  enter_steps s c len at small = elim c.gate.free_or_held [
    | inl free ↦ (
      took m c.world v,
      takes 0 (Some c.world),
      ap (λ hs. get_elem? hs 0) free.1,
      won c id v at lives free.0,
      (λ _. (c.world, refl, learned c id v at lives free.0), λ ne. absurd (ne free.0)),
    )
    | inr taken ↦ (
      v,
      keeps,
      tt,
      same s c at taken.0,
      ((λ z. absurd (let one = taken.0 in omega arith)), λ _. refl),
    )
  ]
    where
      same : (s : State (Option W) (View W)) (c : Custodied m numbers s) → get_elem? s.views id ≡ some v
          → get_or s.words 0 0 ≡ 1
          → Custodied m numbers (record {
            words = set s.words 0 1;
            homes = s.homes;
            views = set s.views id v;
          })
      same s c at one =
          let ws : set s.words 0 1 ≡ s.words = ap (set s.words 0) (sym one)
          ∙ Rattle.std.proofs.lemmas.List.set-get_or s.words 0 0 in
          let vs : set s.views id v ≡ s.views = Rattle.atomic_table.proofs.Lists.set_again s.views id v at in
          subst (λ us. Custodied m numbers (record { words = set s.words 0 1; homes = s.homes; views = us }))
          (sym vs)
          (subst (λ xs. Custodied m numbers (record { words = xs; homes = s.homes; views = s.views }))
          (sym ws) c)

  abbrev slot_of : W → List (ℕ × Option W)
  slot_of w = (0, Some w) ∷ []

  same_slot : (w w' : W) → slot_of w ≡ slot_of w' → w ≡ w'
  same_slot w w' e = same_Some w w' (ap (value_of (Some w)) e)

  pub leave_steps : (u w : W) → v.has_gate ≡ true → v.taken ≡ Some u → carried ≡ (0, Some w) ∷ []
      → Follows m u w v → Steps 0 (λ _. 0) (λ _. left m (step slots 0 0 0 none) (v, carried) 0)
  leave_steps u w has is out f s c len at small =
      let same : u ≡ c.world = same_Some u c.world (sym is ∙ (mine c id v at lives has).2) in
      let f' : Follows m c.world w v = subst (λ z. Follows m z w v) same f in
      let P : List (ℕ × Option W) → Type 0 = λ cs. (x : View W)
      × (a : Rattle.atomic_table.specs.Table.Act (Option W)) × Rattle.atomic_table.specs.Table.Valid
      s.homes cs a × Custodied m numbers (Rattle.atomic_table.specs.Table.stepped s 0 0 id cs x a)
      × left m (step slots 0 0 0 none) (v, cs) 0 (x, Rattle.atomic_table.specs.Table.carried_after cs a)
      in
      subst P (sym out) (
        gave_back m c.world w v,
        gives,
        tt,
        gives_back c id v at lives has w f',
        λ w' u' out' is'.
            let ww : w ≡ w' = same_slot w w' out' in
            let uu : c.world ≡ u' = sym same ∙ same_Some u u' (sym is ∙ is') in
            let back : W → W → Me (Option W) (View W) = λ a z. (gave_back m a z v, []) in
            subst (λ z. (back c.world w ≡ back u' z) × Sorted m u' z) ww
            (subst (λ z. (back c.world w ≡ back z w) × Sorted m z w) uu
            (refl, sorts c id v at lives has w f')),
      )

  pub assign_steps : (b k : ℕ) (u : W) → 0 < b → b < FIRST_MASK → 0 < k → v.has_gate ≡ true → v.taken ≡ Some u
      → changed v.changes (m.kind u) b ≡ 0
      → Steps b (λ _. k) (λ _. assigned m (step slots b k 0 none) (v, carried) k)
  assign_steps b k u real lt some_kind has is empty s c len at small =
      let same : u ≡ c.world = same_Some u c.world (sym is ∙ (mine c id v at lives has).2) in
      let bare : get_or s.words b 0 ≡ 0 = kind_of_word c id v at lives has b real lt
      ∙ ap (λ z. changed v.changes (m.kind z) b) (sym same) ∙ empty in (
        opened b k v,
        keeps,
        tt,
        opens c id v at lives has b k real lt some_kind bare,
        (
          refl,
          λ r row. (held_none c id v at lives has b k real lt v.held some_kind bare
              (ROWS * b + r) (omega arith) (omega arith)).0,
        ),
      )

  pub clear_steps : (b : ℕ) → 0 < b → b < FIRST_MASK → v.has_gate ≡ true
      → ((r : ℕ) → r < ROWS → Has (ROWS * b + r) v.held)
      → Steps b (λ _. 0) (λ _. cleared m (step slots b 0 0 none) (v, carried) 0)
  clear_steps b real lt has all s c len at small = (
    closed b v,
    keeps,
    tt,
    closes c id v at lives has b real lt all,
    refl,
  )
