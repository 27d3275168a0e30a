use Rattle.std.proofs.Common.{ap, arith, ◌∙◌}
use Rattle.hd_maps.specs.TableViews.{TableView}
use Rattle.hd_maps.proofs.TableCalls.{few_given, given_is}
use Rattle.hd_maps.proofs.table.Table.given.Goals as goal

pub overflow_cast-result : goal.overflow_cast-result
overflow_cast-result c =
    omega (arith, few_given c.self.invariant, c.len.ensures.value, c.self.invariant.limit)

pub returns-clause-value : goal.returns-clause-value
returns-clause-value c = c.len.ensures.value ∙ given_is c.self.invariant c.self.view_is

pub returns-clause-few : goal.returns-clause-few
returns-clause-few c =
    omega (
      arith,
      few_given c.self.invariant,
      c.len.ensures.value,
      ap (λ (t : TableView). t.blocks) c.self.view_is,
    )
