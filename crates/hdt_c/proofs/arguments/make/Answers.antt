use Rattle.std.proofs.Common.{arith}
use Rattle.hd_model.specs.declared.data.Kind.TheVariants as kind
use Rattle.hd_model.specs.declared.data.Make.TheVariants as make
use Rattle.hdt_c.specs.Arguments.{counted, long, pinned, short, strong}
use Rattle.hdt_c.proofs.Makes.{of_register, of_strength, plain}
use Rattle.hdt_c.proofs.arguments.make.Goals as goal

pub returns-in_ok-strength_of-in-Variable-clause-made :
    goal.returns-in_ok-strength_of-in-Variable-clause-made
returns-in_ok-strength_of-in-Variable-clause-made c =
    of_strength c.args.number c.args.extra c.in_ok-kind_of.field-0 c.in_ok-kind_of.ensures
    c.in_ok-strength_of-in-Variable.field-0 c.in-Variable.is c.in_ok-strength_of-in-Variable.ensures

pub returns-in_ok-local-in-Dependent-clause-made :
    goal.returns-in_ok-local-in-Dependent-clause-made
returns-in_ok-local-in-Dependent-clause-made c =
    of_register c.args.number c.args.extra c.in_ok-kind_of.field-0 c.in_ok-kind_of.ensures
    c.in_ok-local-in-Dependent.field-0 c.in-Dependent.is c.in_ok-local-in-Dependent.ensures.0
    c.in_ok-local-in-Dependent.ensures.1

pub returns-in-Short-clause-made : goal.returns-in-Short-clause-made
returns-in-Short-clause-made c =
    plain c.args.number c.args.extra c.in_ok-kind_of.field-0 c.in_ok-kind_of.ensures kind.Short make.Short
    short
    (λ e. omega (arith, e)) (λ e. omega (arith, e)) c.in-Short.is c.without_extra.result
    c.without_extra.ensures

pub returns-in-Long-clause-made : goal.returns-in-Long-clause-made
returns-in-Long-clause-made c =
    plain c.args.number c.args.extra c.in_ok-kind_of.field-0 c.in_ok-kind_of.ensures kind.Long make.Long long
    (λ e. omega (arith, e)) (λ e. omega (arith, e)) c.in-Long.is c.without_extra-in-Long.result
    c.without_extra-in-Long.ensures

pub returns-in-Strong-clause-made : goal.returns-in-Strong-clause-made
returns-in-Strong-clause-made c =
    plain c.args.number c.args.extra c.in_ok-kind_of.field-0 c.in_ok-kind_of.ensures kind.Strong
    make.Strong strong
    (λ e. omega (arith, e)) (λ e. omega (arith, e)) c.in-Strong.is c.without_extra-in-Strong.result
    c.without_extra-in-Strong.ensures

pub returns-in-Pinned-clause-made : goal.returns-in-Pinned-clause-made
returns-in-Pinned-clause-made c =
    plain c.args.number c.args.extra c.in_ok-kind_of.field-0 c.in_ok-kind_of.ensures kind.Pinned
    make.Pinned pinned
    (λ e. omega (arith, e)) (λ e. omega (arith, e)) c.in-Pinned.is c.without_extra-in-Pinned.result
    c.without_extra-in-Pinned.ensures

pub returns-in-Counted-clause-made : goal.returns-in-Counted-clause-made
returns-in-Counted-clause-made c =
    plain c.args.number c.args.extra c.in_ok-kind_of.field-0 c.in_ok-kind_of.ensures kind.Counted
    make.Counted counted
    (λ e. omega (arith, e)) (λ e. omega (arith, e)) c.in-Counted.is c.without_extra-in-Counted.result
    c.without_extra-in-Counted.ensures
