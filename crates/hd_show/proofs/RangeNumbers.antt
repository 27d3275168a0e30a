-- The numbers of the ranges of some numbers.
use Rattle.std.proofs.Common.{Bool, List, [], ap, append_assoc, arith, cond, eqb-true, false, refl, sym, true, ℕ, ◌++◌, ◌+◌, ◌-◌, ◌==◌, ◌∙◌, ◌∷◌, ◌≡◌, ◌≤◌}
use Rattle.std.specs.Prelude.{flat_map}
use Rattle.std.specs.List.{range_with_len}
use Rattle.std.proofs.lemmas.List.{map-id}
use Rattle.std.proofs.lemmas.List.FromFn.{map-range_with_len_more}
use Rattle.hd_show.specs.Laws.{RangesHaveTheNumbers, numbers_in}
use Rattle.hd_show.specs.Ranges.{from, ranges_from, up_to}
use Rattle.hd_show.specs.declared.ranges.Range.{Range}

range_push : (a n j : ℕ) → a + n ≡ j → range_with_len a (n + 1) ≡ range_with_len a n ++ j ∷ []
range_push a n j at =
    sym (map-id (range_with_len a (n + 1))) ∙ map-range_with_len_more (λ k. k) a n j at
    ∙ ap (λ xs. xs ++ j ∷ []) (map-id (range_with_len a n))

-- a range that goes on to the next number has that number more
longer : (r : Range) (n : ℕ) → r.first ≤ r.last → n ≡ r.last + 1
    → numbers_in (up_to r n) ≡ numbers_in r ++ n ∷ []
longer r n low next =
    let more : n + 1 - r.first ≡ r.last + 1 - r.first + 1 = omega arith in
    ap (λ m. range_with_len r.first m) more
    ∙ range_push r.first (r.last + 1 - r.first) n (omega arith)

single : (n : ℕ) → numbers_in (from n) ≡ n ∷ []
single n = let one : n + 1 - n ≡ 1 = omega arith in ap (λ m. range_with_len n m) one

numbers_from : (r : Range) (ns : List ℕ) → r.first ≤ r.last
    → flat_map numbers_in (ranges_from r ns) ≡ numbers_in r ++ ns
numbers_from r [] low = refl
numbers_from r (n ∷ ns) low =
    by (n == r.last + 1) refl (numbers_from (from n) ns (omega arith)) (numbers_from (up_to r n) ns)
  where
    by : (t : Bool) → (n == r.last + 1) ≡ t
        → flat_map numbers_in (ranges_from (from n) ns) ≡ numbers_in (from n) ++ ns
        → (r.first ≤ n → flat_map numbers_in (ranges_from (up_to r n) ns) ≡ numbers_in (up_to r n) ++ ns)
        → flat_map numbers_in (cond t (ranges_from (up_to r n) ns) (r ∷ ranges_from (from n) ns))
        ≡ numbers_in r ++ n ∷ ns
    by true same begun on =
        let next : n ≡ r.last + 1 = eqb-true n (r.last + 1) same in
        on (omega arith) ∙ ap (λ xs. xs ++ ns) (longer r n low next)
        ∙ append_assoc (numbers_in r) (n ∷ []) ns
    by false other begun on =
        ap (λ xs. numbers_in r ++ xs) (begun ∙ ap (λ xs. xs ++ ns) (single n))

pub ranges_have_the_numbers : RangesHaveTheNumbers
ranges_have_the_numbers [] = refl
ranges_have_the_numbers (n ∷ ns) =
    numbers_from (from n) ns (omega arith) ∙ ap (λ xs. xs ++ ns) (single n)
