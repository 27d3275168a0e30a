-- The table grows in one way: by its least unused blocks, and it is full only where there are too few.
use Rattle.hd_model.proofs.Basics.{Back, Bool, FinMap, Grown, IsLeastUnused, IsSome, IsWellFormed, Kind, MayGive, None, NoneFree, Numbers, One, Option, Slot, State, Two, Zero, ap, arith, blocks_needed, cases_order, cond, empty, extra_data, false, first_slot, get, get-empty, given_of, insert, is_some, le_of_eq, len, len-empty, len-remove, nat_cmp, nat_cmp-IsAntisymmetric, nat_cmp_total, remove, same_map, subst, suc, sym, true, true≢false, use_of, with_use, zero, ℕ, ⊎_elim, ◌+◌, ◌-◌, ◌<◌, ◌∙◌, ◌≡◌, ◌≢◌, ◌≤◌}
use Rattle.hd_model.proofs.ReadAfterWrite.{some_cases, remove_cases, len_new, get_beside}
use Rattle.hd_model.proofs.{WellFormedWrites.use_keeps, MapEntries.none_from}

nothing_some : {X : Type 0} (o : Option X) → o ≡ None → IsSome o → ⊥
nothing_some o e h = true≢false (sym h ∙ ap is_some e)

one_more : (b : Bool) (a l : ℕ) → a ≡ cond b (l - 1) l → l ≤ a + 1
one_more true a l e = omega arith
one_more false a l e = omega arith

-- a map with keys from 1 to n has at most n
at_most : {X : Type 0} (n : ℕ) (m : FinMap nat_cmp X) → ((q : ℕ) → IsSome (get m q) → (1 ≤ q) × (q ≤ n))
    → len m ≤ n
at_most {X} zero m within =
    let same : m ≡ empty = same_map nat_cmp_total nat_cmp-IsAntisymmetric m empty
    (λ q. none_from (get m q) (λ h. let (low, high) = within q h in omega arith)
    ∙ sym (get-empty nat_cmp q)) in
    le_of_eq (ap len same ∙ len-empty nat_cmp X)
at_most (suc n) m within =
    let fewer = at_most n (remove m (suc n)) (λ q. remove_cases m (suc n)
    (λ j o. IsSome o → (1 ≤ j) × (j ≤ n)) q (λ h. absurd (true≢false (sym h)))
    (λ ne h. let (low, high) = within q h in (low, omega arith))) in
    let less : len m ≤ len (remove m (suc n)) + 1 =
    one_more (is_some (get m (suc n))) (len (remove m (suc n))) (len m)
    (len-remove nat_cmp_total m (suc n)) in
    omega arith

-- beside an unused block fewer blocks than all have a use
pub room : (n : Numbers) (s : State) (block : ℕ) → IsWellFormed n s → use_of s block ≡ None → 1 ≤ block
    → block ≤ n.blocks → given_of s + 1 ≤ n.blocks
room n s block w unused low high =
    let more = len_new s.blocks block extra_data unused in
    let all = at_most n.blocks (insert s.blocks block extra_data)
    (some_cases s.blocks block (λ q. (1 ≤ q) × (q ≤ n.blocks)) extra_data (low, high) w.handles.blocks) in
    omega arith

-- where the table can grow, it is not full
pub grown_or_full : (n : Numbers) (s : State) (wanted : Kind) (grown : Grown) (slot : Slot) → IsWellFormed n s
    → NoneFree s wanted → MayGive n s wanted grown slot → n.blocks < given_of s + blocks_needed wanted → ⊥
grown_or_full n s wanted Zero slot w none may few = none slot may
grown_or_full n s wanted (One block) slot w none may few =
    let fits = room n s block w may.1.unused may.1.low may.1.high in
    let needed : blocks_needed wanted ≡ 1 = ap (λ b. cond b 2 1) may.0 in
    omega arith
grown_or_full n s wanted (Two block other) slot w none may few =
    let low : block + 1 ≤ other = may.2.low in
    let ne : other ≢ block = omega arith in
    let grown = use_keeps n s w block extra_data may.1.unused may.1.low may.1.high in
    let more = len_new s.blocks block extra_data may.1.unused in
    let fits = room n (with_use s block extra_data) other grown
    (get_beside s.blocks block extra_data other ne ∙ may.2.unused) (omega arith) may.2.high in
    let needed : blocks_needed wanted ≡ 2 = ap (λ b. cond b 2 1) may.0 in
    omega arith
grown_or_full n s wanted (Back block) slot w none may few = absurd may

least_same : (n : Numbers) (s : State) (from a b : ℕ) → IsLeastUnused n s from a → IsLeastUnused n s from b
    → a ≡ b
least_same n s from a b x y =
    ⊎_elim (λ e. e) (λ o. ⊎_elim (λ l. absurd (nothing_some _ x.unused (y.least a x.low l)))
    (λ l. absurd (nothing_some _ y.unused (x.least b y.low l))) o) (cases_order a b)

-- the table grows by the same blocks, and gives the same slot
pub same_growth : (n : Numbers) (s : State) (wanted : Kind) (g h : Grown) (a b : Slot) → NoneFree s wanted
    → MayGive n s wanted g a → MayGive n s wanted h b → (g ≡ h) × (a ≡ b)
same_growth n s wanted Zero h a b none x y = absurd (none a x)
same_growth n s wanted (One block) Zero a b none x y = absurd (none b y)
same_growth n s wanted (Two block other) Zero a b none x y = absurd (none b y)
same_growth n s wanted (Back block) h a b none x y = absurd x
same_growth n s wanted (One block) (Back other) a b none x y = absurd y
same_growth n s wanted (Two block other) (Back third) a b none x y = absurd y
same_growth n s wanted (One block) (Two block' other') a b none x y = absurd (true≢false (sym y.0 ∙ x.0))
same_growth n s wanted (Two block other) (One block') a b none x y = absurd (true≢false (sym x.0 ∙ y.0))
same_growth n s wanted (One block) (One block') a b none x y =
    let same = least_same n s 1 block block' x.1 y.1 in
    (ap One same, x.2 ∙ ap first_slot same ∙ sym y.2)
same_growth n s wanted (Two block other) (Two block' other') a b none x y =
    let same = least_same n s 1 block block' x.1 y.1 in
    let next : IsLeastUnused n s (block + 1) other' =
    subst (λ c. IsLeastUnused n s (c + 1) other') (sym same) y.2 in
    let same' = least_same n s (block + 1) other other' x.2 next in
    (λ i. Two (same i) (same' i), x.3 ∙ ap first_slot same ∙ sym y.3)
