use Rattle.std.proofs.Common.{refl}
use Rattle.hdt_c.specs.Exports.{does}
use Rattle.hdt_c.proofs.on_blocks.trim.Goals as goal

pub returns : goal.returns
returns c = does c.args.host.now _ _ (c.in-Some.of, c.in-Some.ensures, c.trim_block.ensures.does, refl)
