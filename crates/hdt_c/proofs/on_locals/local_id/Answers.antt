use Rattle.std.proofs.Common.{ap, refl, ◌∙◌}
use Rattle.hdt_c.specs.Arguments.{number_of}
use Rattle.hdt_c.specs.Exports.{does}
use Rattle.hdt_c.proofs.on_locals.local_id.Goals as goal

pub returns : goal.returns
returns c = does c.args.host.now _ _ (refl, c.number_of.ensures ∙ ap number_of c.local_id.ensures, refl)
