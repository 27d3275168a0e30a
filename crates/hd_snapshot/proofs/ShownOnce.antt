-- How often a key is among the entries of a map: once where it has a value, and else not.
use Rattle.std.proofs.Common.{Bool, Contains, List, Some, T, [], ap, arith, cond, inl, inr, is_some, map, refl, sym, ℕ, ◌+◌, ◌<◌, ◌==◌, ◌∙◌, ◌∷◌, ◌≡◌}
use Rattle.std.proofs.lemmas.Bool.{cases_eq, eq-eqb, ne_eqb}
use Rattle.std.proofs.lemmas.List.Sums.{sum_by-cons}
use Rattle.std.specs.FinMap.{FinMap, entries, entries_sorted, find, get, get-entries, is_sorted}
use Rattle.std.specs.List.{count_by}
use Rattle.std.specs.{FinMap.Entries.below_all, Ordering.nat_cmp}
use Rattle.hd_model.proofs.MapEntries.{below, both, found_first, found_later}
use Rattle.hd_model.proofs.Members.{first_in, later_in}

-- what is counted of a list whose items are read by a function
pub counted-map : {X Y : Type 0} (p : Y → Bool) (f : X → Y) (xs : List X)
    → count_by p (map f xs) ≡ count_by (λ x. p (f x)) xs
counted-map p f [] = refl
counted-map p f (x ∷ xs) =
    sum_by-cons (λ y. cond (p y) 1 0) (f x) (map f xs) ∙ ap (λ n. cond (p (f x)) 1 0 + n) (counted-map p f xs)
    ∙ sym (sum_by-cons (λ z. cond (p (f z)) 1 0) x xs)

zero-add : (n : ℕ) → 0 + n ≡ n
zero-add n = omega arith

module _ {X : Type 0} (k : ℕ) where
  abbrev is_key : ℕ × X → Bool
  is_key e = e.0 == k

  none-counted : (es : List (ℕ × X)) → ((e : ℕ × X) → Contains es e → k < e.0) → count_by is_key es ≡ 0
  none-counted [] above = refl
  none-counted (e ∷ es) above =
      let low = above e (first_in e es) in
      sum_by-cons (λ x. cond (is_key x) 1 0) e es
      ∙ ap (λ b. cond b 1 0 + count_by is_key es) (ne_eqb e.0 k (λ same. omega (arith, low, same)))
      ∙ zero-add (count_by is_key es) ∙ none-counted es (λ g among. above g (later_in e es g among))

  counted-found : (es : List (ℕ × X)) → T (is_sorted nat_cmp es)
      → count_by is_key es ≡ cond (is_some (find nat_cmp k es)) 1 0
  counted-found [] sorted = refl
  counted-found (e ∷ es) sorted =
      let parts : T (below_all nat_cmp e.0 es) × T (is_sorted nat_cmp es) = both _ _ sorted in
      sum_by-cons (λ x. cond (is_key x) 1 0) e es
      ∙ elim (cases_eq k e.0) [
        | inl same ↦
            let none : count_by is_key es ≡ 0 =
            none-counted es (λ g among. let above = below e.0 es parts.0 g among in omega
            (arith, above, same)) in
            ap (λ b. cond b 1 0 + count_by is_key es) (eq-eqb e.0 k (sym same)) ∙ ap (λ n. 1 + n) none
            ∙ ap (λ o. cond (is_some o) 1 0) (sym (found_first k e.0 e.1 (find nat_cmp k es) same))
        | inr apart ↦
            ap (λ b. cond b 1 0 + count_by is_key es) (ne_eqb e.0 k (λ same. apart (sym same)))
            ∙ zero-add (count_by is_key es) ∙ counted-found es parts.1
            ∙ ap (λ o. cond (is_some o) 1 0) (sym (found_later k e.0 (Some e.1) (find nat_cmp k es) apart))
      ]

  pub counted-get : (m : FinMap nat_cmp X) → count_by is_key (entries m) ≡ cond (is_some (get m k)) 1 0
  counted-get m =
      counted-found (entries m) (entries_sorted m) ∙ ap (λ o. cond (is_some o) 1 0) (sym (get-entries m k))
