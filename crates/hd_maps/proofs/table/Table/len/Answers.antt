use Rattle.std.proofs.Common.{arith, ◌∙◌}
use Rattle.hd_maps.proofs.TableCalls.{few_live, live_is}
use Rattle.hd_maps.proofs.table.Table.len.Goals as goal

pub overflow_cast-result : goal.overflow_cast-result
overflow_cast-result c =
    omega (arith, few_live c.self.invariant, c.len.ensures.value, c.self.invariant.limit)

pub returns : goal.returns
returns c = c.len.ensures.value ∙ live_is c.self.invariant c.self.view_is
