use Rattle.std.proofs.Common.{arith, subst, sym, ◌<◌}
use Rattle.hd_audit.specs.Known.{Known}
use Rattle.hd_audit.proofs.KnownFacts.{number_fits}
use Rattle.hd_audit.proofs.TakenLines.{number_read}
use Rattle.hd_audit.proofs.before.Before.number.Goals as goal

pub overflow_add-result : goal.overflow_add-result
overflow_add-result c =
    let known = subst (λ (k : Known). c.args.caller < k.numbers.callers) (sym c.self.view_is) c.requires in
    let along = c.self.invariant.1 in
    let same = number_read along c.args.caller (omega (arith, known, along.callers)) c.index.result.now
    c.index.ensures in
    omega (
      arith,
      same,
      number_fits c.self.inside.scripts.now c.self.inside.judged
          c.self.invariant c.args.caller known,
    )
