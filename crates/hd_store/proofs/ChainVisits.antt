-- The chain of a kind has as many due clumps as the blocks of the kind in any order.
use Rattle.hd_store.proofs.StoreWords.{AllPairs, BlockUse, CollectedSteps, Contains, FinMap, IsTable, Kind, List, None, Option, Some, State, Table, [], ap, arith, blocks_of, chain_of, clumps_of, due_in, entries, entries_sorted, eq-eqb, extra_data, false≢true, filter, get, handles_of, has_kind, keys, keys_apart, kind_number, length, length-append, mapped_in, nat_cmp, nat_le, pairs_passing, passing_from, passing_in, refl, same_kind, slice_index, steps_by, sum_by, sum_by-cons, sym, true, visits, ℕ, ◌∙◌, ◌∷◌, ◌≡◌, ◌≢◌}
use Rattle.hd_model.specs.Visits.{visits_of}
use Rattle.hd_model.proofs.{MapEntries.entry_of, MemberWeights.lighter}
use Rattle.hd_gc.specs.Steps.{collected_steps}

-- the due clumps of a block
abbrev due_of : List ℕ → ℕ → ℕ → ℕ
due_of ages n b = length (filter (λ c. nat_le (slice_index ages c) n) (clumps_of b))

visits_sum : (ages : List ℕ) (n : ℕ) (chain : List ℕ) → visits ages n chain ≡ sum_by (due_of ages n) chain
visits_sum ages n [] = refl
visits_sum ages n (b ∷ chain) =
    let rest = visits_sum ages n chain in
    let sum = sum_by-cons (due_of ages n) b chain in
    let long = length-append (filter (λ c. nat_le (slice_index ages c) n) (clumps_of b))
    (Rattle.hd_model.specs.Ages.due_clumps ages n chain) in
    long ∙ omega (arith, rest, sum)

-- two lists of blocks, each once, with the same members
visits_alike : (ages : List ℕ) (n : ℕ) (xs ys : List ℕ) → AllPairs (λ x y. x ≢ y) xs
    → AllPairs (λ x y. x ≢ y) ys
    → ((x : ℕ) → Contains xs x → Contains ys x) → ((x : ℕ) → Contains ys x → Contains xs x)
    → visits ages n xs ≡ visits ages n ys
visits_alike ages n xs ys first second to back =
    let known = lighter (due_of ages n) ys xs second back in
    omega (arith, visits_sum ages n xs, visits_sum ages n ys, lighter (due_of ages n) xs ys first to, known)

kind_from : (k : Kind) (o : Option BlockUse) → has_kind k o ≡ true → o ≡ Some (handles_of k)
kind_from k None h = absurd (false≢true h)
kind_from k (Some (handles_of j)) h = ap (λ i. Some (handles_of i)) (same_kind j k h)
kind_from k (Some extra_data) h = absurd (false≢true h)

key_in : (m : FinMap nat_cmp BlockUse) (b : ℕ) (u : BlockUse) → get m b ≡ Some u → Contains (keys m) b
key_in m b u there = mapped_in (λ (e : ℕ × BlockUse). e.0) (entries m) (b, u) (entry_of m b u there)

module _ (s : State) (t : Table) (uses : t.uses ≡ s.blocks) (table : IsTable t) (ages : List ℕ) (n : ℕ) where
  visits_same : (k : Kind) → visits_of t ages n k ≡ due_in s ages n k
  visits_same k =
      visits_alike ages n (chain_of t k) (blocks_of s k) (table.once k)
      (pairs_passing (λ block. has_kind k (get s.blocks block)) (λ x y. x ≢ y) (keys s.blocks)
      (keys_apart (entries s.blocks) (entries_sorted s.blocks)))
      (λ b c.
      let is : get s.blocks b ≡ Some (handles_of k) = ap (λ m. get m b) (sym uses)
      ∙ (table.chained k b).0 c in
      passing_in (λ block. has_kind k (get s.blocks block)) (keys s.blocks) b
      (key_in s.blocks b (handles_of k) is)
      (ap (has_kind k) is ∙ eq-eqb (kind_number k) (kind_number k) refl))
      (λ b c.
      let in_it = passing_from (λ block. has_kind k (get s.blocks block)) (keys s.blocks) b c in
      (table.chained k b).1 (ap (λ m. get m b) uses ∙ kind_from k (get s.blocks b) in_it.1))

  pub steps-collected : (before after : ℕ) → after ≡ collected_steps t ages n before
      → CollectedSteps s ages n before after
  steps-collected before after steps = steps ∙ (λ i. steps_by (λ k. visits_same k i) before)
