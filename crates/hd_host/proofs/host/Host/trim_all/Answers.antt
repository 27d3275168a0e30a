use Rattle.std.proofs.Common.{ap, arith}
use Rattle.hd_model.specs.State.{Numbers}
use Rattle.hd_host.proofs.{SoundTurns.trims_numbers, TrimRows.kind_done, TrimRows.kinds_done, TrimRows.row_fewer}
use Rattle.hd_host.proofs.host.Host.trim_all.Goals as goal

pub loop-kind-init : goal.loop-kind-init
loop-kind-init c = λ w rest. rest

pub loop-kind-preserved : goal.loop-kind-preserved
loop-kind-preserved c =
    kind_done c.loop-kind.kind-index c.loop-kind.invariant c.loop-kind-test.true c.trim_kind.ensures

pub overflow_sub-result : goal.overflow_sub-result
overflow_sub-result c =
    let fewer = row_fewer (kinds_done c.loop-kind.kind-index c.loop-kind.invariant
    (omega (arith, c.loop-kind-test.false))) in
    omega (arith, fewer, c.given-before.ensures, c.given.ensures)

pub returns-clause-does : goal.returns-clause-does
returns-clause-does c =
    let row = kinds_done c.loop-kind.kind-index c.loop-kind.invariant (omega (arith, c.loop-kind-test.false)) in
    record {
      row = row;
      fewer = (let fewer = row_fewer row in omega (arith, fewer, c.given-before.ensures, c.given.ensures));
    }

pub returns-clause-contexts : goal.returns-clause-contexts
returns-clause-contexts c = ap (λ (n : Numbers). n.callers)
    (trims_numbers (kinds_done c.loop-kind.kind-index c.loop-kind.invariant (omega (arith, c.loop-kind-test.false))))
