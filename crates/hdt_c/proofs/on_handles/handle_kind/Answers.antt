use Rattle.std.proofs.Common.{refl}
use Rattle.hd_host.proofs.SameHost.{unchanged}
use Rattle.hdt_c.specs.Exports.{does}
use Rattle.hdt_c.proofs.Comings.{failed}
use Rattle.hdt_c.proofs.Makes.{kind_at}
use Rattle.hdt_c.proofs.on_handles.handle_kind.Goals as goal

pub returns-in-Ok : goal.returns-in-Ok
returns-in-Ok c =
    let found = c.in-Ok.ensures in does c.args.host.now _ _ (
      refl,
      refl,
      (
        found.0,
        found.1,
        kind_at _
            c.in-Ok.found _ found.2 c.number_of_kind.ensures,
      ),
    )

pub returns-in-Err : goal.returns-in-Err
returns-in-Err c =
    failed c.in-Err.fault (c.in-Err.ensures, unchanged c.args.host.now) refl c.status_of.ensures
