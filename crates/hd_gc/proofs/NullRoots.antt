-- Roots that are null: neither what the first ones reference nor what they become where they move changes by
-- them.
use Rattle.hd_gc.proofs.Basics.{Addr, AreFourNull, AreNull, Contains, List, MarksOf, None, Option, Promotes, Some, [], ap, arith, cases_lt, first_in, get_or, inl, inr, later_in, length, member_cases, none-some, not_in_none, option_map, subst, suc, sym, take, zero, ℕ, ⊎_elim, ◌+◌, ◌∙◌, ◌∷◌, ◌≡◌, ◌≤◌}
use Rattle.hd_ages.proofs.MappedPrefixes.{length-mapped_to, mapped_on, mapped_past, mapped_to}
use Rattle.hd_gc.proofs.PromoteSteps.{promotes_like}

pub four_null : (roots : List (Option Addr)) (at : ℕ) → get_or roots at None ≡ None
    → get_or roots (at + 1) None ≡ None → get_or roots (at + 2) None ≡ None → get_or roots (at + 3) None ≡ None
    → at + 4 ≤ length roots → AreFourNull roots at
four_null roots at a b c d fits = (fits, each)
  where
    each : AreNull roots at (at + 4)
    each k low high =
        elim (cases_lt k (at + 1)) [
          | inl less ↦ let e : k ≡ at = omega arith in ap (λ i. get_or roots i None) e ∙ a
          | inr on ↦ elim (cases_lt k (at + 2)) [
            | inl less ↦ let e : k ≡ at + 1 = omega arith in ap (λ i. get_or roots i None) e ∙ b
            | inr on ↦ elim (cases_lt k (at + 3)) [
              | inl less ↦ let e : k ≡ at + 2 = omega arith in ap (λ i. get_or roots i None) e ∙ c
              | inr on ↦ let e : k ≡ at + 3 = omega arith in ap (λ i. get_or roots i None) e ∙ d
            ]
          ]
        ]

pub null_on : (roots : List (Option Addr)) (from at to : ℕ) → AreNull roots from at → AreNull roots at to
    → AreNull roots from to
null_on roots from at to before after k low high =
    elim (cases_lt k at) [
      | inl less ↦ before k low less
      | inr on ↦ after k on high
    ]

none_first : {A : Type 0} (xs : List A) (x : A) → Contains (take zero xs) x → ⊥
none_first [] x h = not_in_none x h
none_first (y ∷ xs) x h = not_in_none x h

more_in : {A : Type 0} (xs : List A) (i j : ℕ) → i ≤ j → (x : A) → Contains (take i xs) x → Contains (take j xs) x
more_in xs zero j le x h = absurd (none_first xs x h)
more_in [] (suc i) j le x h = absurd (not_in_none x h)
more_in (y ∷ xs) (suc i) zero le x h = absurd (omega arith)
more_in (y ∷ xs) (suc i) (suc j) le x h =
    ⊎_elim (λ e. subst (Contains (y ∷ take j xs)) e (first_in y (take j xs)))
    (λ later. later_in y (take j xs) x (more_in xs i j (omega arith) x later)) (member_cases y (take i xs) x h)

only_in : (roots : List (Option Addr)) (i j : ℕ) → AreNull roots i j → (x : Addr)
    → Contains (take j roots) (Some x) → Contains (take i roots) (Some x)
only_in roots i zero null x h = absurd (none_first roots (Some x) h)
only_in [] i (suc j) null x h = absurd (not_in_none (Some x) h)
only_in (y ∷ roots) zero (suc j) null x h =
    ⊎_elim (λ e. absurd (none-some x (sym (null zero (omega arith) (omega arith)) ∙ e)))
    (λ later. absurd (none_first roots (Some x) (only_in roots zero j
    (λ k low high. null (suc k) (omega arith) (omega arith)) x later))) (member_cases y (take j roots) (Some x) h)
only_in (y ∷ roots) (suc i) (suc j) null x h =
    ⊎_elim (λ e. subst (Contains (y ∷ take i roots)) e (first_in y (take i roots)))
    (λ later. later_in y (take i roots) (Some x) (only_in roots i j
    (λ k low high. null (suc k) (omega arith) (omega arith)) x later)) (member_cases y (take j roots) (Some x) h)

-- marks that promoted what the first roots reference promoted what these and null ones after them do
pub promoted_past : (roots : List (Option Addr)) (i j : ℕ) {m k : MarksOf} → i ≤ j → AreNull roots i j
    → Promotes (λ x. Contains (take i roots) (Some x)) m k → Promotes (λ x. Contains (take j roots) (Some x)) m k
promoted_past roots i j {m} {k} le null done =
    promotes_like (λ x. Contains (take i roots) (Some x)) (λ x. Contains (take j roots) (Some x)) m k
    (λ x h. more_in roots i j le (Some x) h) (only_in roots i j null) done

-- no root is null and references an object
pub first_null : (roots : List (Option Addr)) (j : ℕ) → AreNull roots zero j → (x : Addr)
    → Contains (take j roots) (Some x) → ⊥
first_null roots j null x h = none_first roots (Some x) (only_in roots zero j null x h)

-- where the first roots are moved, null ones after them are too
pub moved_past : (f : Addr → Addr) (roots : List (Option Addr)) {now : List (Option Addr)} (i j : ℕ)
    → now ≡ mapped_to (option_map f) i roots → i ≤ j → j ≤ length now → AreNull now i j
    → now ≡ mapped_to (option_map f) j roots
moved_past f roots {now} i j is le within null =
    is ∙ mapped_on (option_map f) roots i j None le
    (omega (arith, within, ap length is ∙ length-mapped_to (option_map f) roots i))
    (λ k low high.
    let still : get_or roots k None ≡ None =
    sym (mapped_past (option_map f) roots i k None low) ∙ ap (λ xs. get_or xs k None) (sym is) ∙ null k low high in
    ap (option_map f) still ∙ sym still)
