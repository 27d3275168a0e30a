use Rattle.std.proofs.Common.{refl}
use Rattle.hdt_c.specs.Exports.{does}
use Rattle.hdt_c.proofs.on_locals.local_copy.Goals as goal

pub returns : goal.returns
returns c = does c.args.host.now _ _ (c.local_copy.ensures.does, refl)
