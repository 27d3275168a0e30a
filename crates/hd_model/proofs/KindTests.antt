-- What tests of kinds state, and the extra that fits a kind.
use Rattle.hd_model.proofs.Basics.{Extra, FitsKind, Kind, Make, None, State, all_kinds, ap, arith, count, count_of, eqb-true, get_or, is_kind, kind_number, kind_of, lit<, made_extra, nothing, option_and_then, refl, register_of, secondary, secondary_of, secondary_register, strength, suc, sym, true, without_secondary, zero, ℕ, ◌<◌, ◌∙◌, ◌≡◌, ◌≤◌}
use Rattle.hd_model.specs.declared.data.Kind.TheVariants as kind
use Rattle.hd_model.specs.declared.data.Make.TheVariants as make

-- the kind with a number
kind_from : ℕ → Kind
kind_from n = get_or all_kinds n kind.Dependent

kind_again : (k : Kind) → kind_from (kind_number k) ≡ k
unfolding kind_from
kind_again kind.Short = refl
kind_again kind.Long = refl
kind_again kind.Strong = refl
kind_again kind.Pinned = refl
kind_again kind.Variable = refl
kind_again kind.Counted = refl
kind_again kind.Dependent = refl

-- two kinds with the same number are the same, and so are two that the test finds the same
pub same_number : (a b : Kind) → kind_number a ≡ kind_number b → a ≡ b
same_number a b e = sym (kind_again a) ∙ ap kind_from e ∙ kind_again b

pub same_kind : (a b : Kind) → is_kind a b ≡ true → a ≡ b
same_kind a b e = same_number a b (eqb-true (kind_number a) (kind_number b) e)

-- a kind is one alone
pub variable_or_dependent : {k : Kind} → k ≡ kind.Variable → k ≡ kind.Dependent → ⊥
variable_or_dependent a b = let same : kind.Variable ≡ kind.Dependent = sym a ∙ b in cc

pub variable_or_counted : {k : Kind} → k ≡ kind.Variable → k ≡ kind.Counted → ⊥
variable_or_counted a b = let same : kind.Variable ≡ kind.Counted = sym a ∙ b in cc

pub counted_or_dependent : {k : Kind} → k ≡ kind.Counted → k ≡ kind.Dependent → ⊥
counted_or_dependent a b = let same : kind.Counted ≡ kind.Dependent = sym a ∙ b in cc

-- the list of all kinds goes by their numbers
pub listed_kind : (i : ℕ) (k : Kind) → i < 7 → kind_number (get_or all_kinds i k) ≡ i
listed_kind zero k l = refl
listed_kind (suc zero) k l = refl
listed_kind (suc (suc zero)) k l = refl
listed_kind (suc (suc (suc zero))) k l = refl
listed_kind (suc (suc (suc (suc zero)))) k l = refl
listed_kind (suc (suc (suc (suc (suc zero))))) k l = refl
listed_kind (suc (suc (suc (suc (suc (suc zero)))))) k l = refl
listed_kind (suc (suc (suc (suc (suc (suc (suc i))))))) k l = absurd (omega arith)

pub few_kinds : (k : Kind) → kind_number k < 7
few_kinds kind.Short = lit< tt
few_kinds kind.Long = lit< tt
few_kinds kind.Strong = lit< tt
few_kinds kind.Pinned = lit< tt
few_kinds kind.Variable = lit< tt
few_kinds kind.Counted = lit< tt
few_kinds kind.Dependent = lit< tt

-- an extra without its secondary fits the same kind, and has none
pub without_secondary_fits : {N : Type 0} (k : Kind) (x : Extra N) → FitsKind k x
    → FitsKind k (without_secondary x)
without_secondary_fits k nothing f = f
without_secondary_fits k (strength given) f = f
without_secondary_fits k (secondary o) f = f
without_secondary_fits k (count c) f = f

pub without_secondary_has_none : {N : Type 0} (x : Extra N) → secondary_of (without_secondary x) ≡ None
without_secondary_has_none nothing = refl
without_secondary_has_none (strength given) = refl
without_secondary_has_none (secondary o) = refl
without_secondary_has_none (count c) = refl

-- a made extra fits its kind
pub made_fits : (s : State) (caller : ℕ) (given : Make) (t : ℕ)
    → FitsKind (kind_of given) (made_extra s caller given t)
made_fits s caller make.Short t = refl
made_fits s caller make.Long t = refl
made_fits s caller make.Strong t = refl
made_fits s caller make.Pinned t = refl
made_fits s caller (make.Variable x) t = refl
made_fits s caller make.Counted t = refl
made_fits s caller (make.Dependent r) t = refl

-- the secondary of a made handle: what its register references, if the handle has a target
pub made_secondary : (s : State) (caller : ℕ) (given : Make) (t : ℕ)
    → secondary_of (made_extra s caller given t)
    ≡ option_and_then (λ r. option_and_then (λ _. register_of s caller r) (register_of s caller t))
    (secondary_register given)
made_secondary s caller make.Short t = refl
made_secondary s caller make.Long t = refl
made_secondary s caller make.Strong t = refl
made_secondary s caller make.Pinned t = refl
made_secondary s caller (make.Variable x) t = refl
made_secondary s caller make.Counted t = refl
made_secondary s caller (make.Dependent r) t = refl

-- a made count is at most 1
pub made_count : (s : State) (caller : ℕ) (given : Make) (t : ℕ) → count_of (made_extra s caller given t) ≤ 1
made_count s caller make.Short t = omega arith
made_count s caller make.Long t = omega arith
made_count s caller make.Strong t = omega arith
made_count s caller make.Pinned t = omega arith
made_count s caller (make.Variable x) t = omega arith
made_count s caller make.Counted t = omega arith
made_count s caller (make.Dependent r) t = omega arith
