use Rattle.hd_cwt.proofs.Basics.{IsIdle, WeakTable, arith, refl, subst, sym}
use Rattle.hd_cwt.proofs.KeyChanges.{release_listed, relisted, some_held}
use Rattle.hd_cwt.proofs.cwt.Cwt.release.Goals as goal

pub overflow_sub-self : goal.overflow_sub-self
overflow_sub-self c =
    omega (
      arith,
      some_held c.self.invariant c.args.slot.0
          (subst (λ (t : WeakTable). IsIdle t c.args.slot.0) (sym c.self.view_is) c.requires),
    )

pub invariant_of-self : goal.invariant_of-self
invariant_of-self c =
    relisted (release_listed c.self.invariant c.args.slot.0
    (subst (λ (t : WeakTable). IsIdle t c.args.slot.0) (sym c.self.view_is) c.requires))
    c.release.ensures refl refl refl
