use Rattle.std.proofs.Common.{refl}
use Rattle.hdt_c.specs.Exports.{does}
use Rattle.hdt_c.proofs.on_blocks.trim_all.Goals as goal

pub returns : goal.returns
returns c = does c.args.host.now _ _ (c.trim_all.ensures.does, refl)
