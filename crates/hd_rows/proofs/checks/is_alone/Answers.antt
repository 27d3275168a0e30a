use Rattle.std.proofs.Common.{Some}
use Rattle.hd_rows.proofs.Walks.{nearer}
use Rattle.hd_rows.proofs.checks.is_alone.Goals as goal

pub loop-other-smaller : goal.loop-other-smaller
loop-other-smaller c =
    nearer c.args.heap.now (Some c.loop-other.after) c.in-Some.other c.in-Some.ensures.sound
    c.in-Some.ensures.walk
