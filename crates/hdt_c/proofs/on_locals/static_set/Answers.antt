use Rattle.std.proofs.Common.{refl}
use Rattle.hdt_c.specs.Exports.{does}
use Rattle.hdt_c.proofs.on_locals.static_set.Goals as goal

pub returns : goal.returns
returns c = does c.args.host.now _ _ (c.static_set.ensures.does, refl)
