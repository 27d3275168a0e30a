use Rattle.std.proofs.Common.{ap, arith, length, ◌∙◌}
use Rattle.std.proofs.lemmas.Result.{IfOk-weaker}
use Rattle.hd_maps.proofs.SeenMaps.{keys_length}
use Rattle.hd_maps.proofs.TableCalls.{few_live, slots_are}
use Rattle.hd_maps.proofs.table.Table.slots.Goals as goal

pub returns-clause-each : goal.returns-clause-each
returns-clause-each c =
    IfOk-weaker c.keys.result _ _ (λ slots is. is ∙ slots_are c.self.invariant c.self.view_is) c.keys.ensures

pub returns-clause-few : goal.returns-clause-few
returns-clause-few c =
    IfOk-weaker c.keys.result _ _
    (λ slots is. omega (
      arith,
      ap length is,
      keys_length c.self.inside.handles,
      few_live c.self.invariant,
      c.self.invariant.limit,
    ))
    c.keys.ensures
