-- Ranges, one after another.
use Rattle.std.proofs.Common.{Bool, List, MatchOption, None, Option, Some, [], ap, arith, get_or, is_some, length, max, subst, suc, sym, take, true, true≢false, zero, ℕ, ⊎_elim, ◌∙◌, ◌++◌, ◌+◌, ◌<◌, ◌∷◌, ◌≡◌, ◌≤◌, ◌⊎◌}
use Rattle.std.specs.Prelude.{◌↔◌}
use mathlib.Core.Logic.{inl, inr}
use Rattle.std.proofs.lemmas.Bool.{cases_lt}
use Rattle.std.proofs.lemmas.List.{take_more}
use Rattle.hd_view.specs.Sets.{IsIn}
use Rattle.hd_view.specs.Inside.{Adds, Between}
use Rattle.hd_view.specs.declared.sets.Range.{Range}

-- in ranges and one more
pub in_more : (ranges : List Range) (r : Range) (x : ℕ)
    → IsIn (ranges ++ r ∷ []) x ↔ (IsIn ranges x ⊎ ((r.first ≤ x) × (x ≤ r.last)))
in_more ranges r x = (there ranges, back ranges)
  where
    there : (rs : List Range) → IsIn (rs ++ r ∷ []) x → IsIn rs x ⊎ ((r.first ≤ x) × (x ≤ r.last))
    there [] (inl here) = inr here
    there [] (inr none) = absurd none
    there (s ∷ rs) (inl here) = inl (inl here)
    there (s ∷ rs) (inr later) = ⊎_elim (λ i. inl (inr i)) (λ last. inr last) (there rs later)

    back : (rs : List Range) → IsIn rs x ⊎ ((r.first ≤ x) × (x ≤ r.last)) → IsIn (rs ++ r ∷ []) x
    back [] (inl none) = absurd none
    back [] (inr last) = inl last
    back (s ∷ rs) (inl (inl here)) = inl here
    back (s ∷ rs) (inl (inr i)) = inr (back rs (inl i))
    back (s ∷ rs) (inr last) = inr (back rs (inr last))

-- the last range goes on, where another one begins in it or behind it
module _ (r s : Range) (first last : ℕ) (x : ℕ) (begins : r.first ≤ first) (meets : first ≤ r.last + 1)
    (same : s.first ≡ r.first) (longer : r.last ≤ s.last) (within : last ≤ s.last)
    (either : (s.last ≡ r.last) ⊎ (s.last ≡ last)) where
  pub in_longer : (ranges : List Range)
      → IsIn (ranges ++ s ∷ []) x ↔ (IsIn (ranges ++ r ∷ []) x ⊎ ((first ≤ x) × (x ≤ last)))
  in_longer ranges = (there ranges, back ranges)
    where
      one : (s.first ≤ x) × (x ≤ s.last) → IsIn (r ∷ []) x ⊎ ((first ≤ x) × (x ≤ last))
      one h = ⊎_elim (λ past. inr (omega (arith, past, meets), high past))
          (λ low. inl (inl (omega (arith, h.0, same), low))) (cases_lt r.last x)
        where
          high : r.last < x → x ≤ last
          high past = ⊎_elim (λ e. absurd (omega (arith, e, past, h.1))) (λ e. omega (arith, e, h.1)) either

      there : (rs : List Range) → IsIn (rs ++ s ∷ []) x
          → IsIn (rs ++ r ∷ []) x ⊎ ((first ≤ x) × (x ≤ last))
      there [] (inl here) = one here
      there [] (inr none) = absurd none
      there (q ∷ rs) (inl here) = inl (inl here)
      there (q ∷ rs) (inr later) = ⊎_elim (λ i. inl (inr i)) (λ h. inr h) (there rs later)

      back : (rs : List Range) → IsIn (rs ++ r ∷ []) x ⊎ ((first ≤ x) × (x ≤ last))
          → IsIn (rs ++ s ∷ []) x
      back [] (inl (inl h)) = inl (omega (arith, h.0, same), omega (arith, h.1, longer))
      back [] (inl (inr none)) = absurd none
      back [] (inr h) = inl (omega (arith, h.0, same, begins), omega (arith, h.1, within))
      back (q ∷ rs) (inl (inl here)) = inl here
      back (q ∷ rs) (inl (inr later)) = inr (back rs (inl later))
      back (q ∷ rs) (inr h) = inr (back rs (inr h))

-- ---- as a call adds a range

-- lists that are these
pub more_in : (old new : List Range) (r : Range) → new ≡ old ++ r ∷ []
    → Adds old new (λ x. (r.first ≤ x) × (x ≤ r.last))
more_in old new r is x =
    subst (λ (l : List Range). IsIn l x ↔ (IsIn old x ⊎ ((r.first ≤ x) × (x ≤ r.last)))) (sym is)
    (in_more old r x)

pub longer_in : (old rest new : List Range) (r s : Range) (first last : ℕ) → old ≡ rest ++ r ∷ []
    → r.first ≤ first → first ≤ r.last + 1 → s ≡ record { first = r.first; last = max r.last last }
    → new ≡ rest ++ s ∷ [] → Adds old new (λ x. (first ≤ x) × (x ≤ last))
longer_in old rest new r s first last old_is begins meets is new_is x =
    subst (λ (l : List Range). IsIn l x ↔ (IsIn old x ⊎ ((first ≤ x) × (x ≤ last)))) (sym new_is)
    (subst (λ (l : List Range). IsIn (rest ++ s ∷ []) x ↔ (IsIn l x ⊎ ((first ≤ x) × (x ≤ last))))
    (sym old_is)
    (in_longer r s first last x begins meets (ap (λ (q : Range). q.first) is) (omega (arith, last_is))
    (omega (arith, last_is)) either rest))
  where
    last_is : s.last ≡ max r.last last
    last_is = ap (λ (q : Range). q.last) is

    either : (s.last ≡ r.last) ⊎ (s.last ≡ last)
    either = ⊎_elim (λ less. inr (omega (arith, last_is, less))) (λ le. inl (omega (arith, last_is, le)))
        (cases_lt r.last last)

-- a range that was taken off is put back, and another behind it
pub behind_in : (old rest again new : List Range) (r s : Range) → old ≡ rest ++ r ∷ [] → again ≡ rest ++ r ∷ []
    → new ≡ again ++ s ∷ [] → Adds old new (λ x. (s.first ≤ x) × (x ≤ s.last))
behind_in old rest again new r s old_is again_is new_is =
    more_in old new s (new_is ∙ ap (λ (l : List Range). l ++ s ∷ []) (again_is ∙ sym old_is))

pub adds_nothing : (ranges : List Range) → Adds ranges ranges (λ _. ⊥)
adds_nothing ranges x = (λ i. inl i, λ i. ⊎_elim (λ o. o) (λ none. absurd none) i)

-- ---- numbers that pass a test, one after another

module _ (P : ℕ → Type 0) (n : ℕ) (old : List Range) where
  pub passes : P n → (new : List Range) → Adds old new (λ x. (n ≤ x) × (x ≤ n))
      → Adds old new (λ x. (x ≡ n) × P x)
  passes holds new adds x = (
    λ i. ⊎_elim (λ o. inl o)
        (λ h. let at : n ≡ x = omega (arith, h.0, h.1) in inr (sym at, subst P at holds)) ((adds x).0 i),
    λ i. (adds x).1 (⊎_elim (λ o. inl o) (λ h. inr (omega (arith, h.0), omega (arith, h.0))) i),
  )

  pub fails : (P n → ⊥) → Adds old old (λ x. (x ≡ n) × P x)
  fails none x = (λ i. inl i, λ i. ⊎_elim (λ o. o) (λ h. absurd (none (subst P h.0 h.1))) i)

  pub each_none : Adds old old (Between n n P)
  each_none x = (λ i. inl i, λ i. ⊎_elim (λ o. o) (λ h. absurd (omega (arith, h.0, h.1))) i)

  pub each_more : (first : ℕ) (start new : List Range) → first ≤ n → Adds start old (Between first n P)
      → Adds old new (λ x. (x ≡ n) × P x) → Adds start new (Between first (n + 1) P)
  each_more first start new low before adds x = (
    λ i. ⊎_elim
        (λ o. ⊎_elim (λ s. inl s) (λ h. inr (h.0, omega (arith, h.1), h.2)) ((before x).0 o))
        (λ h. inr (omega (arith, low, h.0), omega (arith, h.0), h.1)) ((adds x).0 i),
    λ i. (adds x).1 (⊎_elim (λ s. inl ((before x).1 (inl s)))
        (λ h. ⊎_elim (λ less. inl ((before x).1 (inr (h.0, less, h.2))))
        (λ past. inr (omega (arith, past, h.1), h.2)) (cases_lt x n)) i),
  )

-- ---- a search for a range that has a number

pub in_at : (ranges : List Range) (i : ℕ) (d : Range) (x : ℕ) → i < length ranges
    → ((get_or ranges i d).first ≤ x) × (x ≤ (get_or ranges i d).last) → IsIn ranges x
in_at [] i d x low here = absurd (omega arith)
in_at (r ∷ ranges) zero d x low here = inl here
in_at (r ∷ ranges) (suc i) d x low here = inr (in_at ranges i d x (omega arith) here)

pub none_next : (ranges : List Range) (i : ℕ) (d : Range) (x : ℕ) → i < length ranges
    → (IsIn (take i ranges) x → ⊥) → (((get_or ranges i d).first ≤ x) × (x ≤ (get_or ranges i d).last) → ⊥)
    → IsIn (take (i + 1) ranges) x → ⊥
none_next ranges i d x low before here h =
    ⊎_elim before here
    ((in_more (take i ranges) (get_or ranges i d) x).0 (subst (λ l. IsIn l x) (take_more ranges i d low) h))

-- the first number below an end that passes a test is one that does, where none does beyond it
pub any_to : (P : ℕ → Type 0) (end : ℕ) → ((x : ℕ) → P x → x < end) → (o : Option ℕ) (t : Bool) → t ≡ is_some o
    → MatchOption o ((x : ℕ) → x < end → P x → ⊥) P → (t ≡ true) ↔ ((x : ℕ) × P x)
any_to P end low (Some x) t is found = (λ _. (x, found), λ _. is)
any_to P end low None t is none = (
  λ yes. absurd (true≢false (sym yes ∙ is)),
  λ some. absurd (none some.0 (low some.0 some.1) some.1),
)
