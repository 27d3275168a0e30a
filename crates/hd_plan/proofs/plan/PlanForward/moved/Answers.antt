use Rattle.hd_plan.proofs.Basics.{HasForwards, PlanOf, has_object, subst, sym, true, ◌∙◌, ◌≡◌}
use Rattle.hd_plan.proofs.LaidPlan.{forwarding_found}
use Rattle.hd_plan.proofs.plan.PlanForward.moved.Goals as goal

pub forwarding_address-requires-clause-span : goal.forwarding_address-requires-clause-span
forwarding_address-requires-clause-span c = c.self.invariant.room.span c.args.at
    (subst (λ (p : PlanOf). has_object p.basis.heap c.args.at ≡ true) (sym c.self.view_is)
    (c.requires.laid.keeping.objects c.args.at c.requires.kept))

pub returns : goal.returns
returns c = c.forwarding_address.ensures ∙ forwarding_found c.requires.laid
    (subst (λ (p : PlanOf). HasForwards p.moves p.regions c.self.inside.forwards.firsts.items
    c.self.inside.forwards.cells.items) c.self.view_is c.self.invariant.forwards) c.args.at c.requires.kept
