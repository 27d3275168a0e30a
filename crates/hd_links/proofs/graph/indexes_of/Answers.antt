use Rattle.std.proofs.Common.{get_or}
use Rattle.std.proofs.lemmas.Option.{slice_get-get_or}
use Rattle.hd_links.proofs.ObjectIndexes.{indexes_more}
use Rattle.hd_links.proofs.graph.indexes_of.Goals as goal

pub loop-i-preserved : goal.loop-i-preserved
loop-i-preserved c =
    let objects = c.args.objects.now in
    let o = c.index-objects-i.result in
    indexes_more (get_or objects c.loop-i.i o) (slice_get-get_or objects c.loop-i.i o c.loop-i-test.true)
    c.loop-i.invariant c.in_ok-insert.ensures.updates.0
