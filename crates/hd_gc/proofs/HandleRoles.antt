-- Handles by their role: what the clearings do to them.
use Rattle.hd_gc.proofs.Basics.{Bool, Extra, Handle, None, Option, Role, ap, attaches, cleared, cond, cond-false, detached, eq-eqb, eqb-true, false, has_role, holds, is_attaching, is_lost, is_role, long, loses_by, refl, role, role_number, secondary, short, suc, swept, sym, true, zero, ℕ, ◌&&◌, ◌∙◌, ◌≡◌}

-- two roles that the test finds the same are
role_from : ℕ → Role
role_from zero = holds
role_from (suc zero) = short
role_from (suc (suc zero)) = long
role_from (suc (suc (suc n))) = attaches

role_again : (r : Role) → role_from (role_number r) ≡ r
unfolding role_from
role_again holds = refl
role_again short = refl
role_again long = refl
role_again attaches = refl

pub same_role : (a b : Role) → is_role a b ≡ true → b ≡ a
same_role a b e =
    sym (role_again b) ∙ ap role_from (sym (eqb-true (role_number a) (role_number b) e)) ∙ role_again a

pub is_same_role : (a b : Role) → b ≡ a → is_role a b ≡ true
is_same_role a b e = eq-eqb (role_number a) (role_number b) (ap role_number (sym e))

module _ {N : Type 0} where
  -- what does not have the role stays
  pub other_stays : (r : Role) (p : N → Bool) (h : Handle N) → is_role r (role h) ≡ false
      → swept true (has_role r) p h ≡ h
  other_stays r p h un = λ i. record {
    kind = h.kind;
    target = cond-false _ None h.target (ap (λ b. b && is_lost p h.target) un) i;
    extra = h.extra;
  }

  -- the clearing of short handles by what is reached, of long ones by what is kept and of dependent ones is
  -- the whole clearing
  target_by : (r : Role) (reach kept : N → Bool) (o : Option N)
      → cond (is_attaching r && (true && is_lost kept
      (cond (is_role long r && is_lost kept (cond (is_role short r && is_lost reach o) None o)) None
      (cond (is_role short r && is_lost reach o) None o)))) None
      (cond (is_role long r && is_lost kept (cond (is_role short r && is_lost reach o) None o)) None
      (cond (is_role short r && is_lost reach o) None o))
      ≡ cond (loses_by r reach kept o) None o
  target_by holds reach kept o = refl
  target_by short reach kept o = refl
  target_by long reach kept o = refl
  target_by attaches reach kept o = refl

  extra_by : (r : Role) (reach kept : N → Bool) (o : Option N) (e : Extra N)
      → cond (is_attaching r && (true && is_lost kept
      (cond (is_role long r && is_lost kept (cond (is_role short r && is_lost reach o) None o)) None
      (cond (is_role short r && is_lost reach o) None o)))) (secondary None) e
      ≡ cond (is_attaching r && is_lost kept o) (secondary None) e
  extra_by holds reach kept o e = refl
  extra_by short reach kept o e = refl
  extra_by long reach kept o e = refl
  extra_by attaches reach kept o e = refl

  pub cleared_by_role : (reach kept : N → Bool) (h : Handle N)
      → detached true kept (swept true (has_role long) kept (swept true (has_role short) reach h))
      ≡ cleared reach kept h
  cleared_by_role reach kept h = λ i. record {
    kind = h.kind;
    target = target_by (role h) reach kept h.target i;
    extra = extra_by (role h) reach kept h.target h.extra i;
  }
