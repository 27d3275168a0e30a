-- What a handle's extra states where it is that of its kind.
use Rattle.hd_model.proofs.Basics.{Bool, Extra, FitsKind, Kind, None, Option, Some, Strength, and_parts, ap, attaches, cond, cond_both, count, count_of, false, false≢true, holds, is_attaching, none-some, nothing, pins_by, pins_by_strength, pins_with, refl, role_by, role_of, role_of_count, role_of_strength, secondary, secondary_of, strength, strength_in, suc, sym, true, zero, ℕ, ◌&&◌, ◌∙◌, ◌≡◌}
use Rattle.hd_model.specs.Table.{fits}
use Rattle.hd_model.specs.declared.data.Kind.TheVariants as kind
use Rattle.hd_model.specs.declared.data.Strength.TheVariants as strength_of

-- a handle with a secondary attaches it
pub fits_secondary : {N : Type 0} (k : Kind) (e : Extra N) (x : N) → FitsKind k e → secondary_of e ≡ Some x
    → role_of k e ≡ attaches
fits_secondary k nothing x f h = absurd (none-some x h)
fits_secondary k (strength given) x f h = absurd (none-some x h)
fits_secondary k (secondary o) x f h = ap (λ j. role_of j (secondary o)) f
fits_secondary k (count c) x f h = absurd (none-some x h)

-- only a dependent handle may have a secondary
pub fits_dependent : {N : Type 0} (k : Kind) (o : Option N) → fits k (secondary o) ≡ true → k ≡ kind.Dependent
fits_dependent kind.Short o h = absurd (false≢true h)
fits_dependent kind.Long o h = absurd (false≢true h)
fits_dependent kind.Strong o h = absurd (false≢true h)
fits_dependent kind.Pinned o h = absurd (false≢true h)
fits_dependent kind.Variable o h = absurd (false≢true h)
fits_dependent kind.Counted o h = absurd (false≢true h)
fits_dependent kind.Dependent o h = refl

strength_attaches : (given : Strength) → is_attaching (role_of_strength given) ≡ false
strength_attaches strength_of.Short = refl
strength_attaches strength_of.Long = refl
strength_attaches strength_of.Strong = refl
strength_attaches strength_of.Pinned = refl

count_attaches : (c : ℕ) → is_attaching (role_of_count c) ≡ false
count_attaches zero = refl
count_attaches (suc c) = refl

-- only a dependent handle attaches
attaching_by : (k : Kind) (given : Option Strength) (c : ℕ) → is_attaching (role_by k given c) ≡ true
    → k ≡ kind.Dependent
attaching_by kind.Short given c h = absurd (false≢true h)
attaching_by kind.Long given c h = absurd (false≢true h)
attaching_by kind.Strong given c h = absurd (false≢true h)
attaching_by kind.Pinned given c h = absurd (false≢true h)
attaching_by kind.Variable None c h = absurd (false≢true h)
attaching_by kind.Variable (Some given) c h = absurd (false≢true (sym (strength_attaches given) ∙ h))
attaching_by kind.Counted given c h = absurd (false≢true (sym (count_attaches c) ∙ h))
attaching_by kind.Dependent given c h = refl

pub attaching_kind : {N : Type 0} (k : Kind) (e : Extra N) → is_attaching (role_of k e) ≡ true
    → k ≡ kind.Dependent
attaching_kind k e = attaching_by k (strength_in e) (count_of e)

strength_holds : (given : Strength) → pins_by_strength given ≡ true → role_of_strength given ≡ holds
strength_holds strength_of.Short h = absurd (false≢true h)
strength_holds strength_of.Long h = absurd (false≢true h)
strength_holds strength_of.Strong h = absurd (false≢true h)
strength_holds strength_of.Pinned h = refl

-- a handle that pins holds
pinning_by : (k : Kind) (given : Option Strength) (c : ℕ) → pins_with k given ≡ true
    → role_by k given c ≡ holds
pinning_by kind.Short given c h = absurd (false≢true h)
pinning_by kind.Long given c h = absurd (false≢true h)
pinning_by kind.Strong given c h = absurd (false≢true h)
pinning_by kind.Pinned given c h = refl
pinning_by kind.Variable None c h = absurd (false≢true h)
pinning_by kind.Variable (Some given) c h = strength_holds given h
pinning_by kind.Counted given c h = absurd (false≢true h)
pinning_by kind.Dependent given c h = absurd (false≢true h)

pub pins_hold : {N : Type 0} (k : Kind) (e : Extra N) → pins_by k e ≡ true → role_of k e ≡ holds
pins_hold k e = pinning_by k (strength_in e) (count_of e)

-- the extra that a collection leaves is that of the kind
pub cleared_fits : {N : Type 0} (k : Kind) (e : Extra N) (lost : Bool) → FitsKind k e
    → FitsKind k (cond (is_attaching (role_of k e) && lost) (secondary None) e)
cleared_fits k e lost f =
    cond_both (is_attaching (role_of k e) && lost) (secondary None) e (FitsKind k)
    (λ both. attaching_kind k e (and_parts (is_attaching (role_of k e)) lost both).0) (λ _. f)
