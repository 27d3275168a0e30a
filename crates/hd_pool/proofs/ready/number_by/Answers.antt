use Rattle.hd_pool.proofs.Basics.{KINDS, arith, row_fits, ◌*◌, ◌+◌, ◌≤◌}
use Rattle.hd_pool.proofs.ready.number_by.Goals.{After-number}
use Rattle.hd_pool.proofs.ready.number_by.Goals as goal

fits : (c : After-number) → c.number.result * c.args.stride + c.args.stride ≤ KINDS * c.args.stride
fits c = row_fits c.number.result c.args.stride KINDS c.args.stride c.number.ensures.small (omega arith)

pub overflow_mul-result : goal.overflow_mul-result
overflow_mul-result c =
    omega (arith, fits ((goal.at.overflow_mul-result c).After-number), c.requires.few)

pub overflow_add-result : goal.overflow_add-result
overflow_add-result c =
    omega (arith, fits ((goal.at.overflow_add-result c).After-number), c.requires.few, c.requires.within)

pub returns-clause-below : goal.returns-clause-below
returns-clause-below c = omega (arith, fits ((goal.at.returns-clause-below c).After-number))
