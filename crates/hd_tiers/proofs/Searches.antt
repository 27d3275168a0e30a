-- Searches that go on where one part has no member.
use Rattle.hd_tiers.proofs.Basics.{FinSet, HasNoneBetween, HasNoneFrom, IfNone, IfSome, IsLeastFrom, None, Option, Some, arith, cases_lt, inl, inr, nat_cmp, subst, sym, ℕ, ◌≡◌, ◌≤◌}

-- what a search that found nothing says, and where it says so
pub none_in : {A P : Type 0} {o : Option A} → o ≡ None → IfNone o P → P
none_in {A} {P} is none = subst (λ (o : Option A). IfNone o P) is none

pub at_none : {A P : Type 0} {o : Option A} → o ≡ None → P → IfNone o P
at_none {A} {P} is none = subst (λ (o : Option A). IfNone o P) (sym is) none

module _ (s : FinSet nat_cmp) (from to : ℕ) (le : from ≤ to) (near : HasNoneBetween s from to) where
  pub further_found : (o : Option ℕ) → IfSome o (IsLeastFrom s to) → IfSome o (IsLeastFrom s from)
  further_found None found = found
  further_found (Some i) found = record {
    low = omega (arith, found.low);
    member = found.member;
    least = λ k from_on below. elim (cases_lt k to) [
      | inl before ↦ near k from_on before
      | inr after ↦ found.least k after below
    ];
  }

  pub further_none : (o : Option ℕ) → IfNone o (HasNoneFrom s to) → IfNone o (HasNoneFrom s from)
  further_none None none = λ k from_on. elim (cases_lt k to) [
    | inl before ↦ near k from_on before
    | inr after ↦ none k after
  ]
  further_none (Some i) none = none
