use Rattle.std.proofs.Common.{refl}
use Rattle.hdt_c.specs.Exports.{does}
use Rattle.hdt_c.proofs.Comings.{failed}
use Rattle.hdt_c.proofs.on_wide.object_make.Goals as goal

pub returns-in-Ok : goal.returns-in-Ok
returns-in-Ok c = does c.args.host.now _ _ (c.in-Ok.made, c.in-Ok.ensures.does, refl, refl)

pub returns-in-Err : goal.returns-in-Err
returns-in-Err c = failed c.in-Err.fault c.in-Err.ensures.does refl c.status_of.ensures
