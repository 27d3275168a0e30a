use Rattle.std.proofs.Common.{refl}
use Rattle.hdt_c.specs.Exports.{does}
use Rattle.hdt_c.proofs.Comings.{failed}
use Rattle.hdt_c.proofs.on_wide.table_set.Goals as goal

pub returns-in-Ok : goal.returns-in-Ok
returns-in-Ok c = does c.args.host.now _ _ (_, c.in-Ok.ensures.does, refl)

pub returns-in-Err : goal.returns-in-Err
returns-in-Err c = failed c.in-Err.fault c.in-Err.ensures.does tt c.status_of.ensures
