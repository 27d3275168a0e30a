use Rattle.std.proofs.Common.{refl}
use Rattle.hdt_c.specs.Exports.{does}
use Rattle.hdt_c.proofs.on_host.stats.Goals as goal

pub returns : goal.returns
returns c =
    does c.args.host.now _ _ (
      refl,
      refl,
      λ i. record {
        objects = c.stats-stats.ensures.objects i;
        cells = c.stats-stats.ensures.cells i;
        handles = c.stats-stats.ensures.handles i;
        blocks = c.stats-stats.ensures.blocks i;
        queued = c.stats-stats.ensures.queued i;
      },
    )
