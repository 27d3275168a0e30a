use Rattle.std.proofs.Common.{arith, subst, ℕ, ◌≡◌}
use Rattle.hd_model.specs.declared.data.Make.TheVariants as make
use Rattle.hdt_c.specs.Arguments.{IsMake, long, pinned, short, strong}
use Rattle.hdt_c.proofs.arguments.plain.Goals as goal

pub returns-in-0-clause-made : goal.returns-in-0-clause-made
returns-in-0-clause-made c =
    let is : 0 ≡ c.args.number = omega (arith, c.in-0.is) in subst (λ (n : ℕ). IsMake make.Short n 0) is short

pub returns-in-1-clause-made : goal.returns-in-1-clause-made
returns-in-1-clause-made c =
    let is : 1 ≡ c.args.number = omega (arith, c.in-1.is) in subst (λ (n : ℕ). IsMake make.Long n 0) is long

pub returns-in-2-clause-made : goal.returns-in-2-clause-made
returns-in-2-clause-made c =
    let is : 2 ≡ c.args.number = omega (arith, c.in-2.is) in subst (λ (n : ℕ). IsMake make.Strong n 0) is strong

pub returns-in_default-clause-made : goal.returns-in_default-clause-made
returns-in_default-clause-made c =
    let is : 3 ≡ c.args.number = omega (arith, c.in_default, c.requires) in
    subst (λ (n : ℕ). IsMake make.Pinned n 0) is pinned
