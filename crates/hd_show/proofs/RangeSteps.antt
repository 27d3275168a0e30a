-- Ranges of rising numbers, one number after another.
use Rattle.std.proofs.Common.{Bool, List, Option, Some, [], ap, append_assoc, arith, cond, false, filter, refl, suc, sym, true, ℕ, ◌++◌, ◌+◌, ◌-◌, ◌<◌, ◌==◌, ◌∙◌, ◌∷◌, ◌≡◌, ◌≤◌}
use Rattle.std.proofs.lemmas.Bool.{cond-false}
use Rattle.std.specs.List.{range_with_len}
use Rattle.hd_show.specs.{Ranges.from, Ranges.range_word, Ranges.ranges_from, Ranges.ranges_word, Ranges.up_to, Inside.left_word}
use Rattle.hd_show.specs.declared.ranges.Range.{Range}

-- a range with a comma comes before those of further numbers
comma : (r s : Range) (ns : List ℕ)
    → ranges_word (r ∷ ranges_from s ns) ≡ range_word r ++ (44 ∷ ranges_word (ranges_from s ns))
comma r s [] = refl
comma r s (n ∷ ns) = by (n == s.last + 1) (comma r (up_to s n) ns)
  where
    by : (t : Bool)
        → ranges_word (r ∷ ranges_from (up_to s n) ns)
        ≡ range_word r ++ (44 ∷ ranges_word (ranges_from (up_to s n) ns))
        → ranges_word (r ∷ cond t (ranges_from (up_to s n) ns) (s ∷ ranges_from (from n) ns))
        ≡ range_word r
        ++ (44 ∷ ranges_word (cond t (ranges_from (up_to s n) ns) (s ∷ ranges_from (from n) ns)))
    by true longer = longer
    by false longer = refl

-- a number that begins a range
pub begins : (text between now : List ℕ) (r : Range) (n : ℕ) → (n == r.last + 1) ≡ false
    → between ≡ text ++ range_word r → now ≡ between ++ 44 ∷ [] → (rest : List ℕ)
    → now ++ left_word (Some (from n)) rest ≡ text ++ left_word (Some r) (n ∷ rest)
begins text between now r n other is after rest =
    let word : List ℕ = ranges_word (ranges_from (from n) rest) in
    ap (λ xs. xs ++ word) (after ∙ ap (λ xs. xs ++ 44 ∷ []) is)
    ∙ append_assoc (text ++ range_word r) (44 ∷ []) word ∙ append_assoc text (range_word r) (44 ∷ word)
    ∙ ap (λ xs. text ++ xs) (sym (comma r (from n) rest))
    ∙ ap (λ rs. text ++ ranges_word rs) (sym (cond-false (n == r.last + 1) (ranges_from (up_to r n) rest)
    (r ∷ ranges_from (from n) rest) other))

-- the numbers from one on, below another, that pass a test
abbrev pub passing : (ℕ → Bool) → ℕ → ℕ → List ℕ
passing p n i = filter p (range_with_len i (n - i))

passing_next : (p : ℕ → Bool) (n i : ℕ) → i < n
    → passing p n i ≡ cond (p i) (i ∷ passing p n (i + 1)) (passing p n (i + 1))
passing_next p n i low =
    let more : n - i ≡ suc (n - (i + 1)) = omega arith in ap (λ m. filter p (range_with_len i m)) more

-- one number on, and none is left at the end
pub row_step : (p : ℕ → Bool) (n i : ℕ) → i < n → (all text now : List ℕ) (before after : Option Range)
    → text ++ left_word before (passing p n i) ≡ all
    → ((rest : List ℕ)
    → now ++ left_word after rest ≡ text ++ left_word before (cond (p i) (i ∷ rest) rest))
    → now ++ left_word after (passing p n (i + 1)) ≡ all
row_step p n i low all text now before after is step =
    step (passing p n (i + 1)) ∙ ap (λ ns. text ++ left_word before ns) (sym (passing_next p n i low)) ∙ is

pub none_left : (p : ℕ → Bool) (n i : ℕ) → n ≤ i → (all text : List ℕ) (before : Option Range)
    → text ++ left_word before (passing p n i) ≡ all → text ++ left_word before [] ≡ all
none_left p n i past all text before is =
    let end : n - i ≡ 0 = omega arith in
    ap (λ m. text ++ left_word before (filter p (range_with_len i m))) (sym end) ∙ is
