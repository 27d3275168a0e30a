-- What is made of the numbers of a kind and an extra.
use Rattle.std.proofs.Common.{None, Option, Some, ap, arith, option_map, refl, subst, sym, ℕ, ◌<◌, ◌∙◌, ◌≡◌, ◌≤◌}
use Rattle.std.proofs.lemmas.Option.{none-some, same_Some}
use Rattle.std.specs.Prelude.{MatchOption}
use Rattle.hd_model.specs.declared.data.{Kind.Kind, Make.Make, Strength.Strength}
use Rattle.hd_model.specs.declared.data.Kind.TheVariants as kind
use Rattle.hd_model.specs.declared.data.Make.TheVariants as make
use Rattle.hd_model.specs.declared.data.Id.{Id}
use Rattle.hd_model.specs.declared.data.Strength.TheVariants as strength
use Rattle.hd_model.specs.Kinds.{kind_number}
use Rattle.hd_model.specs.State.{Handle}
use Rattle.hdt_c.specs.Arguments.{IsMake, counted, dependent, long, pinned, short, strength_number, strong, variable}

-- kinds but two have the extra 0
zero_extra : (k : ℕ) → (k ≡ 4 → ⊥) → (k ≡ 6 → ⊥) → (made : Make) (n e : ℕ) → IsMake made n e → n ≡ k → e ≡ 0
zero_extra k four six _ _ _ short same = refl
zero_extra k four six _ _ _ long same = refl
zero_extra k four six _ _ _ strong same = refl
zero_extra k four six _ _ _ pinned same = refl
zero_extra k four six _ _ _ (variable s) same = absurd (four (sym same))
zero_extra k four six _ _ _ counted same = refl
zero_extra k four six _ _ _ (dependent r low) same = absurd (six (sym same))

module _ (number extra : ℕ) (k : Kind) (of : kind_number k ≡ number) where
  pub plain : (kind : Kind) (m : Make) → IsMake m (kind_number kind) 0 → (kind_number kind ≡ 4 → ⊥)
      → (kind_number kind ≡ 6 → ⊥) → k ≡ kind → (r : Option Make)
      → MatchOption r (extra ≡ 0 → ⊥) (λ made. (made ≡ m) × (extra ≡ 0))
      → MatchOption r ((made : Make) → IsMake made number extra → ⊥) (λ made. IsMake made number extra)
  plain kind m is four six same None none =
      let at : number ≡ kind_number kind = sym of ∙ (λ i. kind_number (same i)) in
      λ made it. none (zero_extra (kind_number kind) four six made number extra it at)
  plain kind m is four six same (Some made) some =
      let at : number ≡ kind_number kind = sym of ∙ (λ i. kind_number (same i)) in
      subst (λ x. IsMake x number extra) (sym some.0)
      (subst (λ n. IsMake m n extra) (sym at) (subst (λ e. IsMake m (kind_number kind) e) (sym some.1) is))

  pub of_strength : (s : Strength) → k ≡ kind.Variable → strength_number s ≡ extra
      → IsMake (make.Variable s) number extra
  of_strength s same e =
      subst (λ n. IsMake (make.Variable s) n extra) ((λ i. kind_number (sym same i)) ∙ of)
      (subst (λ x. IsMake (make.Variable s) 4 x) e (variable s))

  pub of_register : (r : ℕ) → k ≡ kind.Dependent → r ≡ extra → r < 16 → IsMake (make.Dependent r) number extra
  of_register r same e low =
      subst (λ n. IsMake (make.Dependent r) n extra) ((λ i. kind_number (sym same i)) ∙ of)
      (subst (λ x. IsMake (make.Dependent r) 6 x) e (dependent r low))

pub few_strengths : (s : Strength) → strength_number s ≤ 3
few_strengths strength.Short = omega arith
few_strengths strength.Long = omega arith
few_strengths strength.Strong = omega arith
few_strengths strength.Pinned = omega arith

pub few_kinds : (k : Kind) → kind_number k ≤ 6
few_kinds kind.Short = omega arith
few_kinds kind.Long = omega arith
few_kinds kind.Strong = omega arith
few_kinds kind.Pinned = omega arith
few_kinds kind.Variable = omega arith
few_kinds kind.Counted = omega arith
few_kinds kind.Dependent = omega arith

-- the kind of a handle by its number
pub kind_at : (o : Option (Handle Id)) (k : Kind) (n : ℕ) → option_map (λ (h : Handle Id). h.kind) o ≡ Some k
    → n ≡ kind_number k → option_map (λ (h : Handle Id). kind_number h.kind) o ≡ Some n
kind_at None k n is same = absurd (none-some k is)
kind_at (Some h) k n is same =
    ap Some (ap kind_number (same_Some h.kind k is) ∙ sym same)
