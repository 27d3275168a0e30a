use Rattle.hd_plan.proofs.Basics.{NamesBelow, subst, true, ℕ, ◌↔◌, ◌≡◌}
use Rattle.hd_plan.proofs.carding.names_younger.Goals as goal

pub returns : goal.returns
returns c =
    subst (λ (n : ℕ). (c.names_below.result ≡ true) ↔ NamesBelow c.args.heap.now c.args.at n)
    c.generation.ensures.value c.names_below.ensures

pub names_below-requires-clause-fields : goal.names_below-requires-clause-fields
names_below-requires-clause-fields c = c.requires.fields c.args.at
