use Rattle.std.proofs.Common.{refl}
use Rattle.hdt_c.specs.Exports.{does}
use Rattle.hdt_c.proofs.on_sizes.sizes.Goals as goal

pub returns : goal.returns
returns c =
    does c.args.host.now _ _ (
      refl,
      refl,
      record {
        youngest = c.sizes-sizes.ensures.youngest;
        middle = c.sizes-sizes.ensures.middle;
        oldest = c.sizes-sizes.ensures.oldest;
        free = c.sizes-sizes.ensures.free;
        idle = c.sizes-sizes.ensures.idle;
      },
    )
