use Rattle.std.proofs.Common.{refl}
use Rattle.hd_host.proofs.SameHost.{unchanged}
use Rattle.hdt_c.specs.Exports.{does}
use Rattle.hdt_c.proofs.Comings.{failed}
use Rattle.hdt_c.proofs.on_wide.handle_id.Goals as goal

pub returns-in-Ok : goal.returns-in-Ok
returns-in-Ok c =
    let found = c.in-Ok.ensures in does c.args.host.now _ _ (
      refl,
      refl,
      (found.0, c.in-Ok.target, found.1, found.2, c.number_of.ensures),
    )

pub returns-in-Err : goal.returns-in-Err
returns-in-Err c =
    failed c.in-Err.fault (c.in-Err.ensures, unchanged c.args.host.now) refl c.status_of.ensures
