use Rattle.std.proofs.Common.{refl}
use Rattle.hdt_c.specs.Exports.{does}
use Rattle.hdt_c.proofs.on_wide.context_left.Goals as goal

pub returns : goal.returns
returns c = does c.args.host.now _ _ (refl, c.context_left.ensures, refl)
