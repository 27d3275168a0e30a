use Rattle.hd_view.proofs.ShownClaims.{well_formed}
use Rattle.hd_view.proofs.shown.graph_of.Goals as goal

pub graph-requires : goal.graph-requires
graph-requires g c = well_formed c.in_ok-world.ensures.ran

pub returns-in-Ok-clause-shown : goal.returns-in-Ok-clause-shown
returns-in-Ok-clause-shown g c = (c.in_ok-world.world, c.in_ok-world.ensures.ran, c.in-Ok.ensures)
