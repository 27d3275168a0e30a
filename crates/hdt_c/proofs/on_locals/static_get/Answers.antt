use Rattle.std.proofs.Common.{refl}
use Rattle.hdt_c.specs.Exports.{does}
use Rattle.hdt_c.proofs.on_locals.static_get.Goals as goal

pub returns : goal.returns
returns c =
    does c.args.host.now _ _ (c.static_get.result, c.static_get.ensures.does, (c.number_of.ensures, refl))
