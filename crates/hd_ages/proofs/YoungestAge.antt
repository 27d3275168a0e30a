-- Ages that none is below: how they grow, and that none of them is due.
use Rattle.hd_ages.proofs.Basics.{All, All-append, All-drop, All-map, All-take, All-weaker, Bool, CLUMPS, Contains, IsTable, Kind, List, Table, [], ages_in, ages_of, ap, arith, chain_of, cond-false, drop, due_clumps, false, filter, first_in, grown, is_some, later_in, length, lt-leb, min, nat_le, raised, range_with_len, refl, set, slice_index, subst, suc, sym, take, zero, ℕ, ◌*◌, ◌++◌, ◌+◌, ◌-◌, ◌<◌, ◌∙◌, ◌∷◌, ◌≡◌, ◌≤◌}
use Rattle.hd_ages.proofs.BlockAges.{ages_of-set}
use Rattle.hd_model.proofs.Basics.{nat_tests}

-- what grew is above what it grew from
raised_from : (y n g : ℕ) → y ≤ n → y ≤ g → min (y + 1) 2 ≤ raised n g
raised_from y n g low from = grind (arith, nat_tests)

pub grown_from : (y n : ℕ) (ages : List ℕ) → y ≤ n → All (λ a. y ≤ a) ages
    → All (λ a. min (y + 1) 2 ≤ a) (grown n ages)
grown_from y n ages low from =
    All-map (λ a. min (y + 1) 2 ≤ a) (raised n) ages
    (All-weaker (λ a. y ≤ a) (λ a. min (y + 1) 2 ≤ raised n a) (λ a. raised_from y n a low) ages from)

-- another word for a block
pub set_from : (y z least w : ℕ) (ws : List ℕ) (i : ℕ) → i < length ws → least ≤ y → least ≤ z
    → All (λ a. y ≤ a) (ages_of ws) → All (λ a. z ≤ a) (ages_in w)
    → All (λ a. least ≤ a) (ages_of (set ws i w))
set_from y z least w ws i lt below_old below_new old new =
    let P : ℕ → Type 0 = λ a. least ≤ a in
    let all : All P (ages_of ws) = All-weaker (λ a. y ≤ a) P (λ a le. omega arith) (ages_of ws) old in
    let four : All P (ages_in w) = All-weaker (λ a. z ≤ a) P (λ a le. omega arith) (ages_in w) new in
    subst (All P) (sym (ages_of-set ws i w lt))
    (All-append P (take (CLUMPS * i) (ages_of ws) ++ ages_in w) (drop (CLUMPS * i + CLUMPS) (ages_of ws))
    (All-append P (take (CLUMPS * i) (ages_of ws)) (ages_in w) (All-take P (CLUMPS * i) (ages_of ws) all)
    four)
    (All-drop P (CLUMPS * i + CLUMPS) (ages_of ws) all))

-- clumps that are above n are not due
none_passes : (test : ℕ → Bool) (a k : ℕ) → ((c : ℕ) → a ≤ c → c < a + k → test c ≡ false)
    → filter test (range_with_len a k) ≡ []
none_passes test a zero fails = refl
none_passes test a (suc k) fails =
    cond-false (test a) (a ∷ filter test (range_with_len (a + 1) k)) (filter test (range_with_len (a + 1) k))
    (fails a (omega arith) (omega arith))
    ∙ none_passes test (a + 1) k (λ c low high. fails c (omega arith) (omega arith))

none_due_of : (n : ℕ) (ages bs : List ℕ) → All (λ a. n < a) ages
    → ((b : ℕ) → Contains bs b → (1 ≤ b) × (CLUMPS * b ≤ length ages)) → due_clumps ages n bs ≡ []
none_due_of n ages [] above within = refl
none_due_of n ages (b ∷ bs) above within =
    let (low, high) = within b (first_in b bs) in
    (λ i. none_passes (λ c. nat_le (slice_index ages c) n) (CLUMPS * b - CLUMPS) CLUMPS
    (λ c from to. lt-leb (slice_index ages c) n (above c 0 (omega arith))) i ++ due_clumps ages n bs)
    ∙ none_due_of n ages bs above (λ c h. within c (later_in b bs c h))

pub none_due : (t : Table) → IsTable t → (ages : List ℕ) → length ages ≡ CLUMPS * t.blocks → (n : ℕ)
    (k : Kind) → All (λ a. n < a) ages → due_clumps ages n (chain_of t k) ≡ []
none_due t is ages covers n k above =
    none_due_of n ages (chain_of t k) above
    (λ b h. let (low, high) = is.uses b (ap is_some ((is.chained k b).0 h)) in
    (low, omega (arith, high, covers)))
