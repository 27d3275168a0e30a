-- The slots held, exactly: what steps on slots of one block leave of them.
use Rattle.hd_custody.proofs.Basics.{Acting, BLOCKS, Bool, EXTRA_DATA, Every, Has, HasAs, HasRows, HasRowsAs, KINDS, Kinded, List, Me, Option, ROWS, Some, View, [], and_right, ap, arith, bit_at, bit_at-lt, bit_at-pow_other, bit_at-pow_same, bit_at-zero, bit_at_above, bit_at_not, bit_not, bit_xor, cases_eq, cond, eq-eqb, every_row, false, filter, filter-append, get_or, granted, held_times, inl, inr, lowest, lt-ltb, named_by, naming, nat_lt, ne_eqb, not, opened, put_in, put_out, refl, rows, set_bits, slice_get, storing_data, subst, suc, sym, true, w64, whole, with_block, with_data, with_slot, with_view, without, without_rows, zero, ℕ, ◌%◌, ◌&&◌, ◌*◌, ◌++◌, ◌+◌, ◌-◌, ◌/◌, ◌<◌, ◌==◌, ◌^◌, ◌||◌, ◌∙◌, ◌∷◌, ◌≡◌, ◌≢◌, ◌≤◌, ◌⊎◌}
use mathlib.Core.Option.{some, some-injective, some-ne-none}
use lib.ListN.{get_elem?}
use Rattle.hd_mask.proofs.Bits.{flip_same, flip_other}
use Rattle.hd_custody.specs.Counts.{picks}
use Rattle.hd_custody.proofs.{WordTotals.hit, WordSteps.outside}
use Rattle.hd_custody.proofs.HeldSlots.{held_times_append, held_times_picks, has_member}

-- ---- picks

pub picks_none : (n : ℕ) (keep : ℕ → Bool) (base : ℕ) (kind : ℕ → ℕ) → ((r : ℕ) → r < n → keep r ≡ false)
    → picks n keep base kind ≡ []
unfolding picks
picks_none zero keep base kind none = refl
picks_none (suc n) keep base kind none =
    ap (λ b. cond b ((base + n, kind n) ∷ picks n keep base kind) (picks n keep base kind))
    (none n (omega arith)) ∙ picks_none n keep base kind (λ r lt. none r (omega arith))

pub picks_one : (n a : ℕ) (keep : ℕ → Bool) (base : ℕ) (kind : ℕ → ℕ) → a < n
    → ((r : ℕ) → r < n → keep r ≡ (r == a)) → picks n keep base kind ≡ (base + a, kind a) ∷ []
unfolding picks
picks_one zero a keep base kind lt only = absurd (omega arith)
picks_one (suc n) a keep base kind lt only = elim (cases_eq n a) [
  | inl here ↦ (
      ap (λ b. cond b ((base + n, kind n) ∷ picks n keep base kind) (picks n keep base kind))
      (only n (omega arith) ∙ eq-eqb n a here)
      ∙ ap (λ ps. (base + n, kind n) ∷ ps) (picks_none n keep base kind (λ r under. only r (omega arith)
      ∙ ne_eqb r a (λ e. omega arith)))
      ∙ ap (λ s. (base + s, kind s) ∷ []) here)
  | inr far ↦ (
      ap (λ b. cond b ((base + n, kind n) ∷ picks n keep base kind) (picks n keep base kind))
      (only n (omega arith) ∙ ne_eqb n a far)
      ∙ picks_one n a keep base kind (omega arith) (λ r under. only r (omega arith)))
]

-- what of them passes a test
pub filter_picks : (g : ℕ → Bool) (n : ℕ) (keep : ℕ → Bool) (base : ℕ) (kind : ℕ → ℕ)
    → filter (λ p. g p.0) (picks n keep base kind) ≡ picks n (λ r. keep r && g (base + r)) base kind
unfolding picks
filter_picks g zero keep base kind = refl
filter_picks g (suc n) keep base kind = at (keep n) (filter_picks g n keep base kind)
  where
    at : (b : Bool) → filter (λ p. g p.0) (picks n keep base kind) ≡ picks n (λ r. keep r && g (base + r))
        base kind
        → filter (λ p. g p.0) (cond b ((base + n, kind n) ∷ picks n keep base kind) (picks n keep base kind))
        ≡ cond (b && g (base + n)) ((base + n, kind n) ∷ picks n (λ r. keep r && g (base + r)) base kind)
        (picks n (λ r. keep r && g (base + r)) base kind)
    at true rest = ap (λ (ps : List (ℕ × ℕ)). cond (g (base + n)) ((base + n, kind n) ∷ ps) ps) rest
    at false rest = rest

pub filter_stays : (keep : ℕ × ℕ → Bool) (held : List (ℕ × ℕ)) → Every (λ p. keep p ≡ true) held
    → filter keep held ≡ held
filter_stays keep [] all = refl
filter_stays keep (p ∷ ps) all =
    ap (λ b. cond b (p ∷ filter keep ps) (filter keep ps)) (all zero p refl)
    ∙ ap (λ qs. p ∷ qs) (filter_stays keep ps (λ n. all (suc n)))

pub filter_same : (f g : ℕ → Bool) (held : List (ℕ × ℕ)) → ((x : ℕ) → f x ≡ g x)
    → filter (λ p. f p.0) held ≡ filter (λ p. g p.0) held
filter_same f g held same = λ i. filter (λ p. same p.0 i) held

pub filter_both : (f g : ℕ → Bool) (held : List (ℕ × ℕ))
    → filter (λ p. f p.0) (filter (λ p. g p.0) held) ≡ filter (λ p. g p.0 && f p.0) held
filter_both f g [] = refl
filter_both f g (p ∷ ps) = at (g p.0) (filter_both f g ps)
  where
    at : (b : Bool) → filter (λ q. f q.0) (filter (λ q. g q.0) ps) ≡ filter (λ q. g q.0 && f q.0) ps
        → filter (λ q. f q.0) (cond b (p ∷ filter (λ q. g q.0) ps) (filter (λ q. g q.0) ps))
        ≡ cond (b && f p.0) (p ∷ filter (λ q. g q.0 && f q.0) ps) (filter (λ q. g q.0 && f q.0) ps)
    at true rest = ap (λ (qs : List (ℕ × ℕ)). cond (f p.0) (p ∷ qs) qs) rest
    at false rest = rest

-- what passes stays
pub has_kept : (keep : ℕ × ℕ → Bool) (p : ℕ × ℕ) (held : List (ℕ × ℕ)) (n : ℕ) → get_elem? held n ≡ some p
    → keep p ≡ true → HasAs p (filter keep held)
has_kept keep p [] n at on = absurd (some-ne-none p (sym at))
has_kept keep p (q ∷ qs) zero at on =
    subst (λ b. HasAs p (cond b (q ∷ filter keep qs) (filter keep qs)))
    (sym (ap keep (some-injective q p at) ∙ on)) (0, at)
has_kept keep p (q ∷ qs) (suc n) at on = below (keep q) (has_kept keep p qs n at on)
  where
    below : (b : Bool) → HasAs p (filter keep qs) → HasAs p (cond b (q ∷ filter keep qs) (filter keep qs))
    below true h = (suc h.0, h.1)
    below false h = h

-- none of the slots of block b whose rows m has is held
abbrev pub Apart : ℕ → ℕ → List (ℕ × ℕ) → Type 0
Apart b m held = (r : ℕ) → r < ROWS → bit_at m r ≡ 1 → held_times (ROWS * b + r) held ≡ 0

pub fewer_apart : (b m m' : ℕ) (h : List (ℕ × ℕ)) → ((r : ℕ) → bit_at m' r ≤ bit_at m r) → Apart b m h
    → Apart b m' h
fewer_apart b m m' h within apart r lt set = apart r lt (let w = within r in let bit =
    bit_at-lt m r in omega arith)

pub flip_within : (m c : ℕ) → bit_at m c ≡ 1 → (r : ℕ) → bit_at (bit_xor m (2 ^ c)) r ≤ bit_at m r
flip_within m c set r = elim (cases_eq r c) [
  | inl same ↦ (
      let f = flip_same m c in let e = ap (bit_at (bit_xor m (2 ^ c))) same in let g =
      ap (bit_at m) same in omega arith)
  | inr far ↦ (let f = flip_other m c r far in omega arith)
]

-- where none of the rows is held, all stay
pub apart_stays : (b m : ℕ) (held : List (ℕ × ℕ)) → Apart b m held → without_rows b m held ≡ held
apart_stays b m held apart = filter_stays (λ p. outside b m p.0) held
    (λ n p at. out p (has_member held n p at) (cases_eq (p.0 / ROWS) b) (cases_eq (bit_at m (p.0 % ROWS)) 1))
  where
    out : (p : ℕ × ℕ) → Has p.0 held → (p.0 / ROWS ≡ b) ⊎ (p.0 / ROWS ≢ b) → (bit_at m (p.0 % ROWS) ≡ 1)
        ⊎ (bit_at m (p.0 % ROWS) ≢ 1) → outside b m p.0 ≡ true
    out p has (inl here) (inl set) =
        let is : ROWS * b + p.0 % ROWS ≡ p.0 = omega arith in
        let none : held_times p.0 held ≡ 0 = subst (λ x. held_times x held ≡ 0) is
        (apart (p.0 % ROWS) (omega arith) set) in
        let some_has : 1 ≤ held_times p.0 held = has in
        absurd (omega arith)
    out p has (inl here) (inr clear) = ap not (and_right (p.0 / ROWS == b) _ (ne_eqb _ _ clear))
    out p has (inr far) _ = ap (λ t. not (t && (bit_at m (p.0 % ROWS) == 1))) (ne_eqb _ _ far)

pub absent_stays : (x : ℕ) (held : List (ℕ × ℕ)) → held_times x held ≡ 0 → without x held ≡ held
absent_stays x held none = filter_stays (λ p. not (p.0 == x)) held (λ n p at. out p (has_member held n p at)
    (cases_eq p.0 x))
  where
    out : (p : ℕ × ℕ) → Has p.0 held → (p.0 ≡ x) ⊎ (p.0 ≢ x) → not (p.0 == x) ≡ true
    out p has (inl same) = let z = ap (λ y. held_times y held) same in
        let some_has : 1 ≤ held_times p.0 held =
        has in absurd (omega arith)
    out p has (inr far) = ap not (ne_eqb _ _ far)

-- ---- rows of a block

outside_at : (b m r : ℕ) → r < ROWS → outside b m (ROWS * b + r) ≡ not (bit_at m r == 1)
outside_at b m r lt =
    let block : (ROWS * b + r) / ROWS ≡ b = omega arith in
    let row : (ROWS * b + r) % ROWS ≡ r = omega arith in
    ap (λ t. not (t && (bit_at m ((ROWS * b + r) % ROWS) == 1))) (eq-eqb _ _ block)
    ∙ ap (λ s. not (bit_at m s == 1)) row

pub both_off : (t : Bool) → (t && not t) ≡ false
both_off true = refl
both_off false = refl

-- all rows that came go back
pub rows_go : (b m k : ℕ) (held : List (ℕ × ℕ)) → Apart b m held
    → without_rows b m (rows b m k ++ held) ≡ held
rows_go b m k held apart =
    filter-append (λ p. outside b m p.0) (rows b m k) held ∙ ap (λ ps. ps ++ without_rows b m held)
    (filter_picks (outside b m) ROWS (λ r. bit_at m r == 1) (ROWS * b) (λ _. k)
    ∙ picks_none ROWS (λ r. (bit_at m r == 1) && outside b m (ROWS * b + r)) (ROWS * b) (λ _. k)
    (λ r lt. ap (λ t. (bit_at m r == 1) && t) (outside_at b m r lt) ∙ both_off (bit_at m r == 1)))
    ∙ apart_stays b m held apart

pub rows_none : (b m k : ℕ) → m ≡ 0 → rows b m k ≡ []
rows_none b m k zero_is =
    picks_none ROWS (λ r. bit_at m r == 1) (ROWS * b) (λ _. k)
    (λ r lt. ne_eqb _ _ (λ one. let none = ap (λ n. bit_at n r) zero_is ∙ bit_at-zero r in omega arith))

pub row_has : (b m k r : ℕ) (held : List (ℕ × ℕ)) → r < ROWS → bit_at m r ≡ 1
    → Has (ROWS * b + r) (rows b m k ++ held)
row_has b m k r held lt set =
    let j = held_times_append (ROWS * b + r) (rows b m k) held in
    let one = held_times_picks (λ s. bit_at m s == 1) (ROWS * b) (λ _. k) ROWS r lt
    ∙ hit (bit_at m r) 1 set in
    omega arith

-- ---- the kind of slots is seen

pub naming_append : (b k : ℕ) (xs ys : List (ℕ × ℕ)) → naming b k (xs ++ ys) ≡ naming b k xs ++ naming b k ys
naming_append b k [] ys = refl
naming_append b k (x ∷ xs) ys = ap (λ ps. named_by b k x ∷ ps) (naming_append b k xs ys)

pub naming_kinded : (b k : ℕ) (held : List (ℕ × ℕ)) → Kinded held → naming b k held ≡ held
naming_kinded b k [] kinded = refl
naming_kinded b k (p ∷ ps) kinded =
    ap (λ t. (p.0, cond t k p.1) ∷ naming b k ps) (and_right (p.0 / ROWS == b) (p.1 == 0)
    (ne_eqb _ _ (kinded zero p refl).1))
    ∙ ap (λ qs. p ∷ qs) (naming_kinded b k ps (λ n. kinded (suc n)))

pub naming_picks : (b k n : ℕ) (keep : ℕ → Bool) → n ≤ ROWS → naming b k (picks n keep (ROWS * b) (λ _. 0)) ≡
    picks n keep (ROWS * b) (λ _. k)
unfolding picks
naming_picks b k zero keep le = refl
naming_picks b k (suc n) keep le = at (keep n) (naming_picks b k n keep (omega arith))
  where
    at : (t : Bool) → naming b k (picks n keep (ROWS * b) (λ _. 0)) ≡ picks n keep (ROWS * b) (λ _. k)
        → naming b k (cond t ((ROWS * b + n, 0) ∷ picks n keep (ROWS * b) (λ _. 0))
        (picks n keep (ROWS * b) (λ _. 0)))
        ≡ cond t ((ROWS * b + n, k) ∷ picks n keep (ROWS * b) (λ _. k)) (picks n keep (ROWS * b) (λ _. k))
    at true rest =
        let here : (ROWS * b + n) / ROWS ≡ b = omega arith in
        ap (λ u. (ROWS * b + n, cond (u && true) k 0) ∷ naming b k (picks n keep (ROWS * b) (λ _. 0)))
        (eq-eqb _ _ here) ∙ ap (λ qs. (ROWS * b + n, k) ∷ qs) rest
    at false rest = rest

pub naming_rows : (b m k : ℕ) (held : List (ℕ × ℕ)) → Kinded held
    → naming b k (rows b m 0 ++ held) ≡ rows b m k ++ held
naming_rows b m k held kinded =
    naming_append b k (rows b m 0) held ∙ ap (λ ps. ps ++ naming b k held)
    (naming_picks b k ROWS (λ r. bit_at m r == 1) (omega arith))
    ∙ ap (λ qs. rows b m k ++ qs) (naming_kinded b k held kinded)

-- ---- of the rows that came one is kept, and the others leave

pub lowest_is : (m r : ℕ) → Some r ≡ slice_get (set_bits m) 0 → lowest m ≡ r
lowest_is m r e = at (set_bits m) e
  where
    at : (bits : List ℕ) → Some r ≡ slice_get bits 0 → get_or bits 0 0 ≡ r
    at [] none = cc
    at (x ∷ xs) is = cc

-- nothing is left to leave
pub none_leaves : (b m : ℕ) (held : List (ℕ × ℕ)) → m ≡ 0 → without_rows b m held ≡ held
none_leaves b m held none = apart_stays b m held (λ r lt set.
    absurd (let z = ap (λ n. bit_at n r) none ∙ bit_at-zero r in omega arith))

-- all leave but one
pub one_stays : (b m a k : ℕ) (held : List (ℕ × ℕ)) → a < ROWS → bit_at m a ≡ 1 → Apart b m held
    → without_rows b (bit_xor m (2 ^ a)) (rows b m k ++ held) ≡ (ROWS * b + a, k) ∷ held
one_stays b m a k held lt set apart =
    let m' : ℕ = bit_xor m (2 ^ a) in
    filter-append (λ p. outside b m' p.0) (rows b m k) held ∙ ap (λ ps. ps ++ without_rows b m' held)
    (filter_picks (outside b m') ROWS (λ r. bit_at m r == 1) (ROWS * b) (λ _. k)
    ∙ picks_one ROWS a (λ r. (bit_at m r == 1) && outside b m' (ROWS * b + r)) (ROWS * b) (λ _. k) lt
    (λ r under. ap (λ t. (bit_at m r == 1) && t) (outside_at b m' r under) ∙ only r (cases_eq r a)))
    ∙ ap (λ qs. (ROWS * b + a, k) ∷ qs)
    (apart_stays b m' held (fewer_apart b m m' held (flip_within m a set) apart))
  where
    only : (r : ℕ) → (r ≡ a) ⊎ (r ≢ a)
        → ((bit_at m r == 1) && not (bit_at (bit_xor m (2 ^ a)) r == 1)) ≡ (r == a)
    only r (inl same) =
        let off : (bit_at (bit_xor m (2 ^ a)) r == 1) ≡ false = ne_eqb _ _ (λ e.
        let z = ap (bit_at (bit_xor m (2 ^ a))) same in let f = flip_same m a in omega arith) in
        ap (λ t. t && not (bit_at (bit_xor m (2 ^ a)) r == 1)) (eq-eqb _ _ (ap (bit_at m) same ∙ set))
        ∙ ap not off ∙ sym (eq-eqb r a same)
    only r (inr far) =
        ap (λ n. (bit_at m r == 1) && not (n == 1)) (flip_other m a r far)
        ∙ both_off (bit_at m r == 1) ∙ sym (ne_eqb r a far)

-- the slot of one row leaves, and then the others
pub one_leaves : (b m c : ℕ) (held : List (ℕ × ℕ)) → c < ROWS → bit_at m c ≡ 1
    → without_rows b (bit_xor m (2 ^ c)) (without (ROWS * b + c) held) ≡ without_rows b m held
one_leaves b m c held lt set =
    filter_both (outside b (bit_xor m (2 ^ c))) (λ y. not (y == ROWS * b + c)) held
    ∙ filter_same (λ y. not (y == ROWS * b + c) && outside b (bit_xor m (2 ^ c)) y) (outside b m) held
    (λ y. at y (cases_eq y (ROWS * b + c)) (cases_eq (y / ROWS) b))
  where
    at : (y : ℕ) → (y ≡ ROWS * b + c) ⊎ (y ≢ ROWS * b + c) → (y / ROWS ≡ b) ⊎ (y / ROWS ≢ b)
        → (not (y == ROWS * b + c) && outside b (bit_xor m (2 ^ c)) y) ≡ outside b m y
    at y (inl same) _ =
        let block : y / ROWS ≡ b = omega arith in
        let row : y % ROWS ≡ c = omega arith in
        ap (λ t. not t && outside b (bit_xor m (2 ^ c)) y) (eq-eqb _ _ same)
        ∙ sym (ap (λ t. not (t && (bit_at m (y % ROWS) == 1))) (eq-eqb _ _ block)
        ∙ ap not (eq-eqb _ _ (ap (bit_at m) row ∙ set)))
    at y (inr far) (inl here) =
        let other : y % ROWS ≢ c = λ e. far (omega arith) in
        ap (λ t. not t && outside b (bit_xor m (2 ^ c)) y) (ne_eqb _ _ far)
        ∙ ap (λ n. not ((y / ROWS == b) && (n == 1))) (flip_other m c (y % ROWS) other)
    at y (inr far) (inr other) =
        ap (λ t. not t && outside b (bit_xor m (2 ^ c)) y) (ne_eqb _ _ far)
        ∙ ap (λ t. not (t && (bit_at (bit_xor m (2 ^ c)) (y % ROWS) == 1))) (ne_eqb _ _ other)
        ∙ sym (ap (λ t. not (t && (bit_at m (y % ROWS) == 1))) (ne_eqb _ _ other))

-- the other rows stay as they were held
pub others_held : (b m c k : ℕ) (held : List (ℕ × ℕ)) → c < ROWS → HasRowsAs b m k held → bit_at m c ≡ 1
    → HasRowsAs b (bit_xor m (2 ^ c)) k (without (ROWS * b + c) held)
others_held b m c k held under has set r lt on =
    let was = flip_within m c set r in
    let bit = bit_at-lt m r in
    let h = has r lt (omega arith) in
    has_kept (λ p. not (p.0 == ROWS * b + c)) (ROWS * b + r, k) held h.0 h.1
    (ap not (ne_eqb _ _ (λ e. let same : r ≡ c = omega arith in let f = flip_same m c in
    let z = ap (bit_at (bit_xor m (2 ^ c))) same in omega arith)))

picked_at : (base r k n : ℕ) (keep : ℕ → Bool) → r < n → keep r ≡ true
    → HasAs (base + r, k) (picks n keep base (λ _. k))
unfolding picks
picked_at base r k zero keep lt on = absurd (omega arith)
picked_at base r k (suc n) keep lt on = elim (cases_eq r n) [
  | inl same ↦ top (keep n) (ap keep (sym same) ∙ on) same
  | inr far ↦ below (keep n) (picked_at base r k n keep (omega arith) on)
]
  where
    top : (b : Bool) → b ≡ true → r ≡ n → HasAs (base + r, k)
        (cond b ((base + n, k) ∷ picks n keep base (λ _. k)) (picks n keep base (λ _. k)))
    top true e same = (0, ap (λ s. some (base + s, k)) (sym same))
    top false e same = cc

    below : (b : Bool) → HasAs (base + r, k) (picks n keep base (λ _. k))
        → HasAs (base + r, k) (cond b ((base + n, k) ∷ picks n keep base (λ _. k))
        (picks n keep base (λ _. k)))
    below true h = (suc h.0, h.1)
    below false h = h

-- each row that came has its kind
pub rows_have : (b m k : ℕ) (held : List (ℕ × ℕ)) → HasRowsAs b m k (rows b m k ++ held)
rows_have b m k held r lt set = front (rows b m k) (picked_at (ROWS * b) r k ROWS (λ s. bit_at m s == 1) lt
    (eq-eqb _ _ set))
  where
    front : (xs : List (ℕ × ℕ)) → HasAs (ROWS * b + r, k) xs → HasAs (ROWS * b + r, k) (xs ++ held)
    front xs h = (h.0, Rattle.atomic_table.proofs.Lists.at_longer xs held h.0 (ROWS * b + r, k) h.1)

pub rows_held : (b m k : ℕ) (held : List (ℕ × ℕ)) → HasRowsAs b m k held → HasRows b m held
rows_held b m k held has r lt set = let h = has r lt set in has_member held h.0 (ROWS * b + r, k) h.1

-- ---- one slot

pub slot_goes : (x k : ℕ) (held : List (ℕ × ℕ)) → held_times x held ≡ 0 → without x ((x, k) ∷ held) ≡ held
slot_goes x k held none =
    ap (λ t. cond (not t) ((x, k) ∷ without x held) (without x held)) (eq-eqb x x refl)
    ∙ absent_stays x held none

-- what came and goes at once
pub put_goes : (x k : ℕ) (held : List (ℕ × ℕ)) → (x ≢ 0 → held_times x held ≡ 0)
    → put_out x (with_slot x k held) ≡ held
put_goes zero k held none = refl
put_goes (suc x) k held none = slot_goes (suc x) k held (none (λ e. omega arith))

pub put_some : (x : ℕ) (held : List (ℕ × ℕ)) → x ≢ 0 → put_out x held ≡ without x held
put_some zero held real = absurd (real refl)
put_some (suc x) held real = refl

-- a slot goes into its mask
pub slot_leaves : (x : ℕ) (held : List (ℕ × ℕ))
    → without_rows (x / ROWS) (2 ^ (x % ROWS)) held ≡ without x held
slot_leaves x held = filter_same (outside (x / ROWS) (2 ^ (x % ROWS))) (λ y. not (y == x)) held
    (λ y. at y (cases_eq y x) (cases_eq (y / ROWS) (x / ROWS)))
  where
    at : (y : ℕ) → (y ≡ x) ⊎ (y ≢ x) → (y / ROWS ≡ x / ROWS) ⊎ (y / ROWS ≢ x / ROWS)
        → outside (x / ROWS) (2 ^ (x % ROWS)) y ≡ not (y == x)
    at y (inl same) _ =
        let block : y / ROWS ≡ x / ROWS = omega arith in
        let row : y % ROWS ≡ x % ROWS = omega arith in
        ap (λ t. not (t && (bit_at (2 ^ (x % ROWS)) (y % ROWS) == 1))) (eq-eqb _ _ block)
        ∙ ap not (eq-eqb _ _ (ap (bit_at (2 ^ (x % ROWS))) row ∙ bit_at-pow_same (x % ROWS)))
        ∙ sym (ap not (eq-eqb _ _ same))
    at y (inr far) (inl here) =
        let other : y % ROWS ≢ x % ROWS = λ e. far (omega arith) in
        let clear : (bit_at (2 ^ (x % ROWS)) (y % ROWS) == 1) ≡ false =
        ne_eqb _ _ (λ e. let z = bit_at-pow_other (x % ROWS) (y % ROWS) other in omega arith) in
        ap not (and_right (y / ROWS == x / ROWS) _ clear) ∙ sym (ap not (ne_eqb _ _ far))
    at y (inr far) (inr other) =
        ap (λ t. not (t && (bit_at (2 ^ (x % ROWS)) (y % ROWS) == 1))) (ne_eqb _ _ other)
        ∙ sym (ap not (ne_eqb _ _ far))

pub slot_held : (x : ℕ) (held : List (ℕ × ℕ)) → Has x held → HasRows (x / ROWS) (2 ^ (x % ROWS)) held
slot_held x held has r lt set = elim (cases_eq r (x % ROWS)) [
  | inl same ↦ subst (λ y. Has y held) (let is : x ≡ ROWS * (x / ROWS) + r = omega arith in is) has
  | inr far ↦ absurd (let z = bit_at-pow_other (x % ROWS) r far in omega arith)
]

pub with_slot_has : (x k : ℕ) (held : List (ℕ × ℕ)) → x ≢ 0 → HasAs (x, k) (with_slot x k held)
with_slot_has zero k held ne = absurd (ne refl)
with_slot_has (suc x) k held ne = (0, refl)

pub with_slot_some : (x k : ℕ) (held : List (ℕ × ℕ)) → x ≢ 0 → with_slot x k held ≡ (x, k) ∷ held
with_slot_some zero k held ne = absurd (ne refl)
with_slot_some (suc x) k held ne = refl

pub with_slot_none : (x k : ℕ) (held : List (ℕ × ℕ)) → x ≡ 0 → with_slot x k held ≡ held
with_slot_none x k held e = ap (λ y. with_slot y k held) e

pub with_block_some : (x k : ℕ) (held : List (ℕ × ℕ)) → x ≢ 0
    → with_block x k held ≡ rows x every_row k ++ held
with_block_some zero k held ne = absurd (ne refl)
with_block_some (suc x) k held ne = refl

-- ---- a granted block

all_but_first : (r : ℕ) → r < ROWS → not (bit_at 18446744073709551614 r == 1) ≡ (r == 0)
all_but_first zero lt = refl
all_but_first (suc r) lt =
    let is : 18446744073709551614 ≡ bit_not w64 1 = refl in
    let low : bit_at 1 (suc r) ≡ 0 = bit_at_above 1 1 (suc r) (omega arith) (omega arith) in
    let not_is = bit_at_not w64 1 (suc r) (omega arith) lt in
    let set : bit_at 18446744073709551614 (suc r) ≡ 1 = ap (λ n. bit_at n (suc r)) is
    ∙ omega (arith, low, not_is) in
    ap (λ n. not (n == 1)) set ∙ sym (ne_eqb (suc r) 0 (λ e. omega arith))

pub granted_held : (b k : ℕ) (held : List (ℕ × ℕ)) → ((r : ℕ) → r < ROWS → held_times (ROWS * b + r) held ≡ 0)
    → without_rows b 18446744073709551614 (whole b k ++ held) ≡ (ROWS * b, k) ∷ held
granted_held b k held none =
    filter-append (λ p. outside b 18446744073709551614 p.0) (whole b k) held
    ∙ ap (λ ps. ps ++ without_rows b 18446744073709551614 held)
    (filter_picks (outside b 18446744073709551614) ROWS (λ _. true) (ROWS * b) (λ _. k)
    ∙ picks_one ROWS 0 (λ r. true && outside b 18446744073709551614 (ROWS * b + r)) (ROWS * b) (λ _. k)
    (omega arith) (λ r lt. outside_at b 18446744073709551614 r lt ∙ all_but_first r lt)
    ∙ ap (λ x. (x, k) ∷ []) (Rattle.std.proofs.Math.Nat.add-zero (ROWS * b)))
    ∙ ap (λ qs. (ROWS * b, k) ∷ qs) (apart_stays b 18446744073709551614 held (λ r lt _. none r lt))

pub whole_has : (b k r : ℕ) (held : List (ℕ × ℕ)) → r < ROWS → Has (ROWS * b + r) (whole b k ++ held)
whole_has b k r held lt =
    let j = held_times_append (ROWS * b + r) (whole b k) held in
    let one = held_times_picks (λ _. true) (ROWS * b) (λ _. k) ROWS r lt in
    omega arith

abbrev after_first : ℕ
after_first = 18446744073709551614

module _ {W : Type 0} (k b d : ℕ) (a x y : Acting W) (lt : k < KINDS) (apart : (r : ℕ)
    → r < ROWS → held_times (ROWS * b + r) a.view.held ≡ 0)
    (assigned : x ≡ with_view (opened b (k + 1) a.view) a)
    (extra : y ≡ with_view (storing_data d x.view) x) where
  abbrev grown : Bool → List (ℕ × ℕ)
  grown t = cond t (whole b (k + 1) ++ a.view.held) a.view.held

  y_is : y ≡ with_view (storing_data d (opened b (k + 1) a.view)) a
  y_is = extra ∙ ap (λ (z : Acting W). with_view (storing_data d z.view) z) assigned

  few : nat_lt (k + 1) EXTRA_DATA ≡ true
  few = lt-ltb (k + 1) EXTRA_DATA (omega arith)

  pub granted_has : (m : ℕ) → HasRows b m y.view.held
  granted_has m r under _ =
      subst (λ h. Has (ROWS * b + r) h) (sym (ap (λ (z : Acting W). z.view.held) y_is
      ∙ ap grown few)) (whole_has b (k + 1) r a.view.held under)

  pub granted_view : (z : Acting W) → z ≡ with_view (put_in (BLOCKS + b) after_first y.view) y
      → z ≡ with_view (granted k b d a.view) a
  granted_view z filled =
      let block : BLOCKS + b - BLOCKS ≡ b = omega arith in
      filled ∙ ap (λ (w : Acting W). with_view (put_in (BLOCKS + b) after_first w.view) w) y_is
      ∙ ap (λ (h : List (ℕ × ℕ)). with_view (record a.view {
        changes = with_data d ((b, k + 1) ∷ a.view.changes);
        held = h;
      }) a)
      (ap (λ t. without_rows (BLOCKS + b - BLOCKS) after_first (grown t)) few
      ∙ ap (λ c. without_rows c after_first (whole b (k + 1) ++ a.view.held)) block
      ∙ granted_held b (k + 1) a.view.held apart)

pub with_data_some : (d : ℕ) (cs : List (ℕ × ℕ)) → d ≢ 0 → with_data d cs ≡ (d, EXTRA_DATA) ∷ cs
with_data_some zero cs ne = absurd (ne refl)
with_data_some (suc d) cs ne = refl
