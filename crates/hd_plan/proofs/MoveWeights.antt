-- How many moves there are and the cells of their objects, against all that is condemned; and sums over maps.
use Rattle.hd_plan.proofs.Basics.{Addr, AllPairs, Bool, Contains, Counts, Heap, IsCondemned, IsRising, List, Move, Takes, [], ap, arith, cases_order, cells_laid, cells_of, count_by, counts_named, fewer, filter, get_or, get_or_default, inl, inr, is_condemned, length, length-filter, length-map, lighter, map, mapped_from, move_at, object_at, pairs_passing, passing_from, passing_in, placed_at, refl, subst, sum_by, sum_by-cons, sym, true, ℕ, ◌+◌, ◌<◌, ◌∙◌, ◌∷◌, ◌≡◌, ◌≢◌, ◌≤◌, FinMap, Some, T, both, entries, entries_sorted, find, first_alone, found_first, found_later, get, get-entries, get_left, is_sorted, nat_cmp, remove, share, sum-remove, values}
use Rattle.hd_model.proofs.Members.{pairs_mapped}
use Rattle.hd_plan.proofs.CondemnedAddresses.{condemned_is}
use Rattle.std.specs.FinMap.Entries.{below_all}
use Rattle.std.proofs.{lemmas.Option.none-some}

pub sum_map : {A B : Type 0} (f : A → B) (w : B → ℕ) (xs : List A)
    → sum_by w (map f xs) ≡ sum_by (λ x. w (f x)) xs
sum_map f w [] = refl
sum_map f w (x ∷ xs) = sum_by-cons w (f x) (map f xs) ∙ ap (λ s. w (f x) + s) (sum_map f w xs)
    ∙ sym (sum_by-cons (λ y. w (f y)) x xs)

module _ (ms : List Move) (rising : IsRising ms) where
  -- no two moves are of one object
  pub froms_apart : (i j : ℕ) → i < length ms → j < length ms → (move_at ms i).from ≡ (move_at ms j).from → i ≡ j
  froms_apart i j low high same = elim (cases_order i j) [
    | inl e ↦ e
    | inr (inl less) ↦ absurd (let r = rising i j less high in let s = ap {B = ℕ} (λ a. a.0) same in
        omega arith)
    | inr (inr more) ↦ absurd (let r = rising j i more low in let s = ap {B = ℕ} (λ a. a.0) same in
        omega arith)
  ]

  read_at : (i : ℕ) (d : Move) → i < length ms → get_or ms i d ≡ move_at ms i
  read_at i d low = get_or_default ms i d _ low

  froms_differ : AllPairs (λ x y. x.from ≢ y.from) ms
  froms_differ = λ i j d less high same.
      let e : i ≡ j = froms_apart i j (omega arith) high (ap (λ m. m.from) (sym (read_at i d (omega arith)))
      ∙ same ∙ ap (λ m. m.from) (read_at j d high)) in omega arith

  from_apart : (x y : Move) → Contains ms x → Contains ms y → x.from ≡ y.from → x ≡ y
  from_apart x y a b same =
      let atx : move_at ms a.0 ≡ x = sym (read_at a.0 x a.1) ∙ a.2 in
      let aty : move_at ms b.0 ≡ y = sym (read_at b.0 y b.1) ∙ b.2 in
      sym atx ∙ ap (move_at ms)
      (froms_apart a.0 b.0 a.1 b.1 (ap (λ m. m.from) atx ∙ same ∙ sym (ap (λ m. m.from) aty))) ∙ aty

  -- the objects of those moves that pass a test are counted
  pub counts_moves : (test : Move → Bool) (P : Addr → Type 0)
      → ((k : ℕ) → k < length ms → test (move_at ms k) ≡ true → P (move_at ms k).from)
      → ((a : Addr) → P a → (k : ℕ)
      × ((k < length ms) × (((move_at ms k).from ≡ a) × (test (move_at ms k) ≡ true))))
      → Counts P (count_by test ms)
  counts_moves test P each all =
      let some : Counts (λ m. Contains ms m × (test m ≡ true)) (length (filter test ms)) = record {
        members = filter test ms;
        apart = pairs_passing test (λ x y. x ≢ y) ms
            (λ i j d less high same. froms_differ i j d less high (ap (λ m. m.from) same));
        each = λ x h. passing_from test ms x h;
        all = λ x h. passing_in test ms x h.0 h.1;
        number = refl;
      } in
      subst (λ (c : ℕ). Counts P c) (length-filter test ms)
      (counts_named (λ (m : Move). m.from) (λ m. Contains ms m × (test m ≡ true)) P (length (filter test ms))
      (λ x y a b. from_apart x y a.0 b.0)
      (λ x h. let at : move_at ms h.0.0 ≡ x = sym (read_at h.0.0 x h.0.1) ∙ h.0.2 in
      subst (λ (m : Move). P m.from) at (each h.0.0 h.0.1 (ap test at ∙ h.1)))
      (λ a h. let (k, rest) = all a h in
      (move_at ms k, (((k, rest.0, get_or_default ms k _ _ rest.0), rest.1.1), rest.1.0)))
      some)

  module _ (h : Heap) (n : ℕ)
      (condemned : (k : ℕ) → k < length ms → IsCondemned (object_at h) n (move_at ms k).from) where
    abbrev froms : List Addr
    froms = map (λ (m : Move). m.from) ms

    froms_in : (a : Addr) → Contains froms a → IsCondemned (object_at h) n a
    froms_in a c =
        let (m, rest) = mapped_from (λ (m : Move). m.from) ms a c in
        let at : move_at ms rest.0.0 ≡ m = sym (read_at rest.0.0 m rest.0.1) ∙ rest.0.2 in
        subst (λ (x : Addr). IsCondemned (object_at h) n x) (ap (λ y. y.from) at ∙ rest.1)
        (condemned rest.0.0 rest.0.1)

    froms_once : AllPairs (λ x y. x ≢ y) froms
    froms_once =
        pairs_mapped (λ x y. x.from ≢ y.from) (λ x y. x ≢ y) (λ m. m.from) ms (λ x y apart. apart)
        froms_differ

    -- moves of what is condemned take at most as many cells as that
    pub cells_fit : (cells : ℕ) → Takes h (IsCondemned (object_at h) n) cells → cells_laid h ms ≤ cells
    cells_fit cells takes =
        let known =
        lighter (λ a. cells_of (placed_at h a)) froms takes.members froms_once
        (λ a c. takes.all a (froms_in a c)) in
        omega (arith, known, takes.sum, sum_map (λ (m : Move). m.from) (λ a. cells_of (placed_at h a)) ms)

    -- they are at most as many as that
    pub moves_fit : (count : ℕ) → Counts (λ a. is_condemned h n a ≡ true) count → length ms ≤ count
    moves_fit count counts =
        let within =
        fewer froms counts.members froms_once
        (λ a c. counts.all a (condemned_is h n a (froms_in a c))) in
        omega (arith, within, counts.number, length-map ms (λ (m : Move). m.from))

module _ {A : Type 0} (f : A → ℕ) (ComesFrom : ℕ → ℕ → Type 0)
    (once : (q s r : ℕ) → ComesFrom q r → ComesFrom s r
    → q ≡ s) where
  total-coming : (es : List (ℕ × A)) (m : FinMap nat_cmp A) → T (is_sorted nat_cmp es)
      → ((q : ℕ) (v : A) → find nat_cmp q es ≡ Some v → (r : ℕ) × (ComesFrom q r × (f v ≤ share f (get m r))))
      → sum_by f (map (λ e. e.1) es) ≤ sum_by f (values m)
  total-coming [] m sorted found = omega arith
  total-coming (e ∷ es) m sorted found =
      let parts : T (below_all nat_cmp e.0 es) × T (is_sorted nat_cmp es) = both _ _ sorted in
      let here = found e.0 e.1 (found_first e.0 e.0 e.1 (find nat_cmp e.0 es) refl) in
      let rest = total-coming es (remove m here.0) parts.1 (later e es m here.0 here.1.0 parts.0 found) in
      let first = here.1.1 in
      omega (arith, sum_by-cons f e.1 (map (λ w. w.1) es), rest, first, sum-remove f m here.0)
    where
      later : (e : ℕ × A) (es : List (ℕ × A)) (m : FinMap nat_cmp A) (r : ℕ) → ComesFrom e.0 r
          → T (below_all nat_cmp e.0 es)
          → ((q : ℕ) (v : A) → find nat_cmp q (e ∷ es) ≡ Some v
          → (s : ℕ) × (ComesFrom q s × (f v ≤ share f (get m s))))
          → (q : ℕ) (v : A) → find nat_cmp q es ≡ Some v
          → (s : ℕ) × (ComesFrom q s × (f v ≤ share f (get (remove m r) s)))
      later e es m r comes below found q v is =
          let other : q ≢ e.0 =
          λ same. none-some v (sym (ap (λ k. find nat_cmp k es) same ∙ first_alone e.0 es below) ∙ is) in
          let there = found q v (found_later q e.0 (Some e.1) (find nat_cmp q es) other ∙ is) in
          let apart : there.0 ≢ r = λ same. other (once q e.0 r (subst (ComesFrom q) same there.1.0) comes) in
          (there.0, (there.1.0, subst (λ o. f v ≤ share f o) (sym (get_left m r there.0 apart)) there.1.1))

  pub sum-coming : (m k : FinMap nat_cmp A)
      → ((q : ℕ) (v : A) → get m q ≡ Some v → (r : ℕ) × (ComesFrom q r × (f v ≤ share f (get k r))))
      → sum_by f (values m) ≤ sum_by f (values k)
  sum-coming m k found =
      total-coming (entries m) k (entries_sorted m) (λ q v is. found q v (get-entries m q ∙ is))
