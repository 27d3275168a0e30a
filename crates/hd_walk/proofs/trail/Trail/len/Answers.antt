use Rattle.std.proofs.Common.{arith, ap, length}
use Rattle.hd_walk.proofs.TrailAdds.{long_by}
use Rattle.hd_walk.proofs.trail.Trail.len.Goals as goal

pub returns-clause-value : goal.returns-clause-value
returns-clause-value c =
    let long = long_by c.self.inside.nodes.keys c.self.inside.marks.items c.self.invariant.marked in
    omega (arith, c.len.ensures, long, c.self.invariant.marked, ap length c.self.view_is)
