-- Lemmas on lists that are read as maps and sets by index.
use Rattle.hd_heap.proofs.Basics.{Bool, List, None, Option, [], ap, arith, eq-eqb, eq_by_cmp, false, flagged, get_or, get_or-append_right, get_or_append_left, length, list_any, nat_cmp, nat_cmp_total, ne_eqb, indexes_of, refl, suc, sym, table, tables, true, unsigned_tied, zero, ℕ, ◌*◌, ◌++◌, ◌+◌, ◌-◌, ◌<◌, ◌||◌, ◌∙◌, ◌∷◌, ◌≡◌}
use Rattle.std.specs.FinSet as set

-- the order's test at two numbers that are equal, and at two that are not
pub tied : (q i : ℕ) → q ≡ i → eq_by_cmp nat_cmp q i ≡ true
tied q i same = unsigned_tied q i ∙ eq-eqb q i same

pub untied : (q i : ℕ) → (q ≡ i → ⊥) → eq_by_cmp nat_cmp q i ≡ false
untied q i apart = unsigned_tied q i ∙ ne_eqb q i apart

any-flagged_below : (i q : ℕ) (bs : List Bool) → q < i → list_any (eq_by_cmp nat_cmp q) (flagged i bs) ≡ false
any-flagged_below i q [] below = refl
any-flagged_below i q (false ∷ bs) below = any-flagged_below (i + 1) q bs (omega arith)
any-flagged_below i q (true ∷ bs) below =
    ap (λ b. b || list_any (eq_by_cmp nat_cmp q) (flagged (i + 1) bs)) (untied q i (λ same. omega arith))
    ∙ any-flagged_below (i + 1) q bs (omega arith)

any-flagged : (i j q : ℕ) (bs : List Bool) → q ≡ i + j → list_any (eq_by_cmp nat_cmp q) (flagged i bs)
    ≡ get_or bs j false
any-flagged i j q [] at = refl
any-flagged i zero q (false ∷ bs) at = any-flagged_below (i + 1) q bs (omega arith)
any-flagged i (suc j) q (false ∷ bs) at = any-flagged (i + 1) j q bs (omega arith)
any-flagged i zero q (true ∷ bs) at = ap (λ b. b || list_any (eq_by_cmp nat_cmp q) (flagged (i + 1) bs))
    (tied q i (omega arith))
any-flagged i (suc j) q (true ∷ bs) at =
    ap (λ b. b || list_any (eq_by_cmp nat_cmp q) (flagged (i + 1) bs)) (untied q i (λ same. omega arith))
    ∙ any-flagged (i + 1) j q bs (omega arith)

-- an index is in the set where what is there is true
pub contains-indexes_of : (bs : List Bool) (q : ℕ) → set.contains (indexes_of bs) q ≡ get_or bs q false
contains-indexes_of bs q = set.contains-from_list nat_cmp_total (flagged 0 bs) q
    ∙ any-flagged 0 q q bs (omega arith)

pub length-table : {A : Type 0} (n : ℕ) (f : ℕ → A) → length (table n f) ≡ n
unfolding table
length-table zero f = refl
length-table (suc n) f = ap suc (length-table n (λ k. f (suc k)))

pub get_or-table : {A : Type 0} (n : ℕ) (f : ℕ → A) (k : ℕ) (d : A) → k < n → get_or (table n f) k d ≡ f k
unfolding table
get_or-table zero f k d below = absurd (omega arith)
get_or-table (suc n) f zero d below = refl
get_or-table (suc n) f (suc k) d below = get_or-table n (λ j. f (suc j)) k d (omega arith)

-- a read of the tables of a list: the item's table has it, or there is no such item
pub get_or-tables : {A B : Type 0} (n : ℕ) (f : Option A → ℕ → B) (d : B) → ((k : ℕ) → f None k ≡ d)
    → (os : List (Option A)) (q i j : ℕ) → q ≡ i * n + j → j < n → get_or (tables n f os) q d ≡ f
    (get_or os i None) j
unfolding tables
get_or-tables n f d none [] q i j at below = sym (none j)
get_or-tables n f d none (o ∷ os) q zero j at below =
    let short = length-table n (f o) in
    let is : q ≡ j = omega (arith, zero_times n) in
    ap (λ k. get_or (table n (f o) ++ tables n f os) k d) is
    ∙ get_or_append_left (table n (f o)) (tables n f os) d j (omega arith) ∙ get_or-table n (f o) j d below
  where
    zero_times : (n : ℕ) → 0 * n ≡ 0
    zero_times n = omega arith
get_or-tables n f d none (o ∷ os) q (suc i) j at below =
    let short = length-table n (f o) in
    let times : suc i * n ≡ n + i * n = omega arith in
    let rest = get_or-tables n f d none os (i * n + j) i j refl below in
    let is : q ≡ length (table n (f o)) + (i * n + j) = omega arith in
    let less : length (table n (f o)) + (i * n + j) - n ≡ i * n + j = omega arith in
    ap (λ k. get_or (table n (f o) ++ tables n f os) k d) is
    ∙ get_or-append_right (table n (f o)) (tables n f os) n (length (table n (f o)) + (i * n + j)) d short
    (omega arith) ∙ ap (λ k. get_or (tables n f os) k d) less ∙ rest
