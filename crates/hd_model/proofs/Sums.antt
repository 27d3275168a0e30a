-- The sum over the values of a map whose keys are numbers.
use Rattle.hd_model.proofs.Basics.{Equal, FinMap, Greater, Less, List, None, Option, Ordering, Some, T, [], ap, arith, below_all, by_order, cases_eq, cases_order, entries, entries-insert, entries_sorted, eq-eqb, find, get, get-entries, inl, inr, insert, is_sorted, le-ltb, len, len-entries, length, lt-ltb, map, nat_cmp, nat_cmp-IsAntisymmetric, nat_cmp_total, ne_eqb, put, refl, remove, same_map, subst, suc, sum_by, sum_by-cons, sym, values, ℕ, ⊎_elim, ◌*◌, ◌+◌, ◌<◌, ◌∙◌, ◌∷◌, ◌≡◌, ◌≢◌, ◌≤◌}
use Rattle.hd_model.proofs.MapEntries.{both, less, found_first, found_later}
use Rattle.hd_model.proofs.ReadAfterWrite.{get_inserted, get_beside, get_removed, get_left}

-- what a value that may be there adds
abbrev pub share : {A : Type 0} → (A → ℕ) → Option A → ℕ
share f None = 0
share f (Some x) = f x

abbrev total : {A : Type 0} → (A → ℕ) → List (ℕ × A) → ℕ
total f es = sum_by f (map (λ e. e.1) es)

ranks_less : (k x : ℕ) → k < x → nat_cmp k x ≡ Less
ranks_less k x h = rw (lt-ltb k x h)

ranks_equal : (k x : ℕ) → k ≡ x → nat_cmp k x ≡ Equal
ranks_equal k x h = rw (le-ltb k x (omega arith), eq-eqb k x h)

ranks_greater : (k x : ℕ) → x < k → nat_cmp k x ≡ Greater
ranks_greater k x h = rw (le-ltb k x (omega arith), ne_eqb k x (λ same. omega arith))

find_below : {A : Type 0} (k x : ℕ) (es : List (ℕ × A)) → k < x → T (below_all nat_cmp x es)
    → find nat_cmp k es ≡ None
find_below k x [] low h = refl
find_below k x (e ∷ es) low h =
    let parts = both _ _ h in
    let above : x < e.0 = less x e.0 parts.0 in
    found_later k e.0 (Some e.1) (find nat_cmp k es) (λ same. omega arith) ∙ find_below k x es low parts.1

-- no later entry has the key of the first one
pub first_alone : {A : Type 0} (x : ℕ) (es : List (ℕ × A)) → T (below_all nat_cmp x es)
    → find nat_cmp x es ≡ None
first_alone x [] h = refl
first_alone x (e ∷ es) h =
    let parts = both _ _ h in
    let above : x < e.0 = less x e.0 parts.0 in
    found_later x e.0 (Some e.1) (find nat_cmp x es) (λ same. omega arith) ∙ first_alone x es parts.1

total-put : {A : Type 0} (f : A → ℕ) (k : ℕ) (v : A) (es : List (ℕ × A)) → T (is_sorted nat_cmp es)
    → total f (put nat_cmp k v es) + share f (find nat_cmp k es) ≡ total f es + f v
total-put f k v [] h = omega (arith, sum_by-cons f v [])
total-put {A} f k v (e ∷ es) h =
    let parts : T (below_all nat_cmp e.0 es) × T (is_sorted nat_cmp es) = both _ _ h in
    let vs : List A = map (λ w. w.1) es in
    let at : Ordering → ℕ =
    λ r. total f (by_order r ((k, v) ∷ e ∷ es) ((e.0, v) ∷ es) (e ∷ put nat_cmp k v es)) in
    elim (cases_order k e.0) [
      | inl same ↦ ap (λ r. at r + share f (find nat_cmp k (e ∷ es))) (ranks_equal k e.0 same)
          ∙ ap (λ o. total f ((e.0, v) ∷ es) + share f o) (found_first k e.0 e.1 (find nat_cmp k es) same)
          ∙ omega (arith, sum_by-cons f v vs, sum_by-cons f e.1 vs)
      | inr (inl low) ↦ ap (λ r. at r + share f (find nat_cmp k (e ∷ es))) (ranks_less k e.0 low)
          ∙ ap (λ o. total f ((k, v) ∷ e ∷ es) + share f o)
          (found_later k e.0 (Some e.1) (find nat_cmp k es) (λ same. omega arith)
          ∙ find_below k e.0 es low parts.0)
          ∙ omega (arith, sum_by-cons f v (e.1 ∷ vs))
      | inr (inr high) ↦ ap (λ r. at r + share f (find nat_cmp k (e ∷ es))) (ranks_greater k e.0 high)
          ∙ ap (λ o. total f (e ∷ put nat_cmp k v es) + share f o)
          (found_later k e.0 (Some e.1) (find nat_cmp k es) (λ same. omega arith))
          ∙ (let known = sum_by-cons f e.1 (map (λ w. w.1) (put nat_cmp k v es)) in
          omega (arith, known, sum_by-cons f e.1 vs, total-put f k v es parts.1))
    ]

-- a value is put for another, or where there was none
pub sum-insert : {A : Type 0} (f : A → ℕ) (m : FinMap nat_cmp A) (k : ℕ) (v : A)
    → sum_by f (values (insert m k v)) + share f (get m k) ≡ sum_by f (values m) + f v
sum-insert f m k v =
    ap (λ es. total f es + share f (get m k)) (entries-insert nat_cmp_total m k v)
    ∙ ap (λ o. total f (put nat_cmp k v (entries m)) + share f o) (get-entries m k)
    ∙ total-put f k v (entries m) (entries_sorted m)

-- a value is taken out, if there is one
pub sum-remove : {A : Type 0} (f : A → ℕ) (m : FinMap nat_cmp A) (k : ℕ)
    → sum_by f (values (remove m k)) + share f (get m k) ≡ sum_by f (values m)
sum-remove {A} f m k = by (get m k) refl
  where
    -- at another key it is as before
    beside : (q : ℕ) → q ≢ k → get (remove m k) q ≡ get m q
    beside q ne = get_left m k q ne

    by : (o : Option A) → get m k ≡ o → sum_by f (values (remove m k)) + share f o ≡ sum_by f (values m)
    by None none =
        let same : remove m k ≡ m =
        same_map nat_cmp_total nat_cmp-IsAntisymmetric (remove m k) m
        (λ q. ⊎_elim (λ e. ap (get (remove m k)) e ∙ get_removed m k ∙ sym none ∙ sym (ap (get m) e))
        (λ ne. beside q ne) (cases_eq q k)) in
        omega (arith, ap (λ (x : FinMap nat_cmp A). sum_by f (values x)) same)
    by (Some v) some =
        let same : insert (remove m k) k v ≡ m =
        same_map nat_cmp_total nat_cmp-IsAntisymmetric (insert (remove m k) k v) m
        (λ q. ⊎_elim (λ e. ap (get (insert (remove m k) k v)) e ∙ get_inserted (remove m k) k v ∙ sym some
        ∙ sym (ap (get m) e))
        (λ ne. get_beside (remove m k) k v q ne ∙ beside q ne) (cases_eq q k)) in
        let back = sum-insert f (remove m k) k v in
        let known = ap (λ (x : FinMap nat_cmp A). sum_by f (values x)) same in
        omega (arith, known, back, ap (share f) (get_removed m k))

total-le : {A : Type 0} (f : A → ℕ) (es : List (ℕ × A)) (m : FinMap nat_cmp A) → T (is_sorted nat_cmp es)
    → ((q : ℕ) → share f (find nat_cmp q es) ≤ share f (get m q)) → total f es ≤ sum_by f (values m)
total-le f [] m sorted below = omega arith
total-le f (e ∷ es) m sorted below =
    let parts : T (below_all nat_cmp e.0 es) × T (is_sorted nat_cmp es) = both _ _ sorted in
    let here : f e.1 ≤ share f (get m e.0) =
    subst (λ o. share f o ≤ share f (get m e.0)) (found_first e.0 e.0 e.1 (find nat_cmp e.0 es) refl)
    (below e.0) in
    let others : total f es ≤ sum_by f (values (remove m e.0)) =
    total-le f es (remove m e.0) parts.1
    (λ q. ⊎_elim
    (λ same. subst (λ (k : ℕ). share f (find nat_cmp k es) ≤ share f (get (remove m e.0) k)) (sym same)
    (subst (λ o. share f o ≤ share f (get (remove m e.0) e.0)) (sym (first_alone e.0 es parts.0))
    (omega arith)))
    (λ ne. subst (λ o. share f (find nat_cmp q es) ≤ share f o) (sym (get_left m e.0 q ne))
    (subst (λ o. share f o ≤ share f (get m q)) (found_later q e.0 (Some e.1) (find nat_cmp q es) ne)
    (below q)))
    (cases_eq q e.0)) in
    omega (arith, sum_by-cons f e.1 (map (λ w. w.1) es), here, others, sum-remove f m e.0)

-- a map that has no more at each key has no more in all
pub sum-le : {A : Type 0} (f : A → ℕ) (m k : FinMap nat_cmp A)
    → ((q : ℕ) → share f (get m q) ≤ share f (get k q)) → sum_by f (values m) ≤ sum_by f (values k)
sum-le f m k below =
    total-le f (entries m) k (entries_sorted m)
    (λ q. subst (λ o. share f o ≤ share f (get k q)) (get-entries m q) (below q))

-- a value that is there is taken out
pub sum-taken : {A : Type 0} (f : A → ℕ) (m : FinMap nat_cmp A) (k : ℕ) (v : A) → get m k ≡ Some v
    → sum_by f (values (remove m k)) + f v ≡ sum_by f (values m)
sum-taken f m k v is =
    let taken = sum-remove f m k in let here : share f (get m k) ≡ f v = ap (share f) is in omega arith

-- a value that is there adds no more than the sum
pub sum-at : {A : Type 0} (f : A → ℕ) (m : FinMap nat_cmp A) (k : ℕ) (v : A) → get m k ≡ Some v
    → f v ≤ sum_by f (values m)
sum-at f m k v is = let taken = sum-taken f m k v is in omega arith

total-many : {A : Type 0} (f : A → ℕ) (least : ℕ) → ((x : A) → least ≤ f x) → (es : List (ℕ × A))
    → least * length es ≤ total f es
total-many f least each [] = omega arith
total-many {A} f least each (e ∷ es) =
    let rest = total-many f least each es in
    let here = each e.1 in
    let more = sum_by-cons f e.1 (map (λ w. w.1) es) in
    let times : least * suc (length es) ≡ least + least * length es = omega arith in
    omega arith

-- where each adds the same number
pub sum-many : {A : Type 0} (f : A → ℕ) (least : ℕ) → ((x : A) → least ≤ f x) → (m : FinMap nat_cmp A)
    → least * len m ≤ sum_by f (values m)
sum-many f least each m =
    let lens : len m ≡ length (entries m) = len-entries m in
    let P : ℕ → Type 0 = λ n. least * n ≤ sum_by f (values m) in
    subst P (sym lens) (total-many f least each (entries m))
