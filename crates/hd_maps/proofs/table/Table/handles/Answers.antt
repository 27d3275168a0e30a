use Rattle.std.proofs.Common.{ap, map, ◌∙◌}
use Rattle.std.proofs.lemmas.Result.{IfOk-weaker}
use Rattle.hd_model.specs.Handles.{handle_of}
use Rattle.hd_maps.proofs.TableCalls.{rows_are}
use Rattle.hd_maps.proofs.table.Table.handles.Goals as goal

pub returns : goal.returns
returns c =
    IfOk-weaker c.values.result _ _
    (λ rows is. ap (map handle_of) is ∙ rows_are c.self.invariant c.self.view_is) c.values.ensures
