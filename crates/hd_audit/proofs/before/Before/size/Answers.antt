use Rattle.std.proofs.Common.{arith}
use Rattle.hd_audit.proofs.KnownFacts.{few_fields}
use Rattle.hd_audit.proofs.before.Before.size.Goals as goal

pub overflow_cast-result : goal.overflow_cast-result
overflow_cast-result c =
    omega (
      arith,
      c.fields.ensures,
      few_fields c.self.inside.scripts.now c.self.inside.judged
          c.self.invariant c.args.id,
    )

pub overflow_add-result : goal.overflow_add-result
overflow_add-result c =
    omega (
      arith,
      c.fields.ensures,
      few_fields c.self.inside.scripts.now c.self.inside.judged
          c.self.invariant c.args.id,
    )

pub returns-clause-few : goal.returns-clause-few
returns-clause-few c =
    omega (
      arith,
      c.fields.ensures,
      few_fields c.self.inside.scripts.now c.self.inside.judged
          c.self.invariant c.args.id,
    )
