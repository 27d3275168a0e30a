use Rattle.std.proofs.Common.{refl}
use Rattle.hdt_c.specs.Exports.{does}
use Rattle.hdt_c.proofs.Comings.{failed}
use Rattle.hdt_c.proofs.on_handles.handle_new.Goals as goal

pub returns-in-Ok : goal.returns-in-Ok
returns-in-Ok c =
    does c.args.host.now _ _ (c.in-Some.made, c.in-Some.ensures.made, c.in-Ok.ensures.does, refl)

pub returns-in-Err : goal.returns-in-Err
returns-in-Err c =
    failed c.in-Err.fault
    ((c.in-Some.made, c.in-Some.ensures.made, c.in-Err.ensures.does.0), c.in-Err.ensures.does.1) refl
    c.status_of.ensures
