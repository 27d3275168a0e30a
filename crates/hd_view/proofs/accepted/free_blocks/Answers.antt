use Rattle.hd_view.specs.declared.sets.NumberSet.{NumberSet}
use Rattle.hd_view.proofs.BlockSets.{blocks_all}
use Rattle.hd_view.proofs.accepted.free_blocks.Goals as goal

pub returns : goal.returns
returns c =
    let start = c.open-set.result in
    let set : NumberSet = record start { within = c.add_each.new.ranges } in
    blocks_all c.args.before.now.state c.args.kind start set c.blocks-blocks.result c.open-set.ensures.within
    c.open-set.ensures.but c.in_ok-add_each.ensures c.blocks-blocks.ensures.used
