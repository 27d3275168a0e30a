-- The callers of a run are in rising order, since its turns are a prefix of all turns.
use Rattle.hd_run.proofs.Basics.{Cmd, Entry, List, [], arith, get_or, length, map, subst, suc, turn_of, turns_from, turns_of, zero, ℕ, ◌++◌, ◌+◌, ◌<◌, ◌∷◌, ◌≡◌, ◌≤◌}
use Rattle.std.specs.List.Sorted.{IsNonDecreasingBy}

-- the numbers do not fall along a list, from a least one on
abbrev Rises : {X : Type 0} → (X → ℕ) → ℕ → List X → Type 0
Rises n low [] = Unit {0}
Rises n low (x ∷ xs) = (low ≤ n x) × Rises n (n x) xs

Rises-turns : (k : ℕ) (commands : List Cmd) (rest : List (ℕ × Cmd)) →
    ((low : ℕ) → low ≤ k → Rises (λ (p : ℕ × Cmd). p.0) low rest) →
    (low : ℕ) → low ≤ k → Rises (λ (p : ℕ × Cmd). p.0) low (turns_of k commands ++ rest)
Rises-turns k [] rest after low le = after low le
Rises-turns k (c ∷ cs) rest after low le = (le, Rises-turns k cs rest after k (omega arith))

Rises-from : (k : ℕ) (lists : List (List Cmd)) (low : ℕ) → low ≤ k →
    Rises (λ (p : ℕ × Cmd). p.0) low (turns_from k lists)
Rises-from k [] low le = tt
Rises-from k (x ∷ xs) low le = Rises-turns k x (turns_from (k + 1) xs)
    (λ low' le'. Rises-from (k + 1) xs low' (omega arith)) low le

-- the entries whose turns begin a list that rises
Rises-entries : (low : ℕ) (es : List Entry) (rest : List (ℕ × Cmd)) →
    Rises (λ (p : ℕ × Cmd). p.0) low (map turn_of es ++ rest) → Rises (λ (e : Entry). e.caller) low es
Rises-entries low [] rest h = tt
Rises-entries low (e ∷ es) rest h = (h.0, Rises-entries e.caller es rest h.1)

-- from its least number on, and between any two positions
least_at : {X : Type 0} (n : X → ℕ) (low : ℕ) (xs : List X) → Rises n low xs → (j : ℕ) (d : X) →
    j < length xs → low ≤ n (get_or xs j d)
least_at n low [] h j d lt = absurd (omega arith)
least_at n low (x ∷ xs) h zero d lt = h.0
least_at n low (x ∷ xs) h (suc j) d lt = let more = least_at n (n x) xs h.1 j d (omega arith) in
    omega (arith, h.0, more)

non_decreasing : {X : Type 0} (n : X → ℕ) (low : ℕ) (xs : List X) → Rises n low xs → IsNonDecreasingBy n xs
non_decreasing n low [] h i j d le lt = absurd (omega arith)
non_decreasing n low (x ∷ xs) h zero zero d le lt = omega arith
non_decreasing n low (x ∷ xs) h zero (suc j) d le lt = least_at n (n x) xs h.1 j d (omega arith)
non_decreasing n low (x ∷ xs) h (suc i) zero d le lt = absurd (omega arith)
non_decreasing n low (x ∷ xs) h (suc i) (suc j) d le lt =
    non_decreasing n (n x) xs h.1 i j d (omega arith) (omega arith)

pub rising_of_prefix : (lists : List (List Cmd)) (journal : List Entry) (rest : List (ℕ × Cmd)) →
    turns_from 0 lists ≡ map turn_of journal ++ rest →
    IsNonDecreasingBy (λ (e : Entry). e.caller) journal
rising_of_prefix lists journal rest turns =
    non_decreasing (λ (e : Entry). e.caller) 0 journal (Rises-entries 0 journal rest
    (subst (Rises (λ (p : ℕ × Cmd). p.0) 0) turns (Rises-from 0 lists 0 (omega arith))))
