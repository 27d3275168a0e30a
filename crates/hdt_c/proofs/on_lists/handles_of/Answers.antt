use Rattle.std.proofs.Common.{refl}
use Rattle.hdt_c.specs.Exports.{does}
use Rattle.hdt_c.proofs.on_lists.handles_of.Goals as goal

pub returns : goal.returns
returns c = does c.args.host.now _ _ (refl, refl, c.list.ensures)
