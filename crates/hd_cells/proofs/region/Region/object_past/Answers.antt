use Rattle.hd_cells.proofs.{Contents.opened, CellWalk.end_reached, CellWalk.first_seen}
use Rattle.hd_cells.proofs.region.Region.object_past.Goals as goal

pub first_from-requires-clause-reached : goal.first_from-requires-clause-reached
first_from-requires-clause-reached c =
    end_reached (opened c.self.told c.self.invariant c.self.view_is) c.args.end c.requires

pub returns : goal.returns
returns c =
    first_seen c.self.inside.cells c.self.inside.fill c.args.self.now c.args.end c.first_from.result
    c.self.view_is c.first_from.ensures
