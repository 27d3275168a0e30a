use Rattle.hd_plan.proofs.Basics.{Basis, IsExtent, PlanOf, ap, subst}
use Rattle.hd_plan.proofs.plan.Plan.extent.Goals as goal

pub returns : goal.returns
returns c =
    subst (λ (b : Basis). IsExtent b.heap b.condemned c.self.inside.extent)
    (ap (λ (p : PlanOf). p.basis) c.self.view_is) c.self.invariant.extent
