use Rattle.std.proofs.Common.{refl}
use Rattle.hdt_c.specs.Exports.{does}
use Rattle.hdt_c.proofs.Listings.{all_listed}
use Rattle.hdt_c.proofs.on_lists.handles.Goals as goal

pub returns : goal.returns
returns c = does c.args.host.now _ _ (refl, refl, all_listed c.args.host.now c.list.ensures)
