use Rattle.std.proofs.Common.{None, Some, refl}
use Rattle.hdt_c.specs.Exports.{does}
use Rattle.hdt_c.proofs.on_host.final_next.Goals as goal

pub returns-in-Some : goal.returns-in-Some
returns-in-Some c = does c.args.host.now _ _ (Some c.in-Some.first, c.in-Some.ensures.does, (refl, refl))

pub returns-in-None : goal.returns-in-None
returns-in-None c = does c.args.host.now _ _ (None, c.in-None.ensures.does, (refl, refl))
