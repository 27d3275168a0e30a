use Rattle.std.proofs.Common.{refl}
use Rattle.hdt_c.specs.Exports.{does}
use Rattle.hdt_c.proofs.Comings.{failed}
use Rattle.hdt_c.proofs.on_wide.handle_load.Goals as goal

pub returns-in-Ok : goal.returns-in-Ok
returns-in-Ok c =
    does c.args.host.now _ _ (
      c.in-Ok.loaded,
      c.in-Ok.ensures.does,
      c.in-Ok.ensures.reads,
      c.number_of.ensures,
      refl,
      refl,
    )

pub returns-in-Err : goal.returns-in-Err
returns-in-Err c = failed c.in-Err.fault c.in-Err.ensures.does (refl, refl) c.status_of.ensures
