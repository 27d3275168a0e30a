use Rattle.std.proofs.Common.{◌+◌}
use Rattle.hd_model.specs.State.{IsAllFree}
use Rattle.hd_view.proofs.BlockSets.{whole_below}
use Rattle.hd_view.proofs.RangeSets.{any_to}
use Rattle.hd_view.proofs.accepted.any_whole.Goals as goal

pub returns : goal.returns
returns c =
    let s = c.args.before.now.state in
    any_to (IsAllFree s c.args.kind) (c.blocks-2.result + 1)
    (whole_below s c.args.kind c.blocks-2.result c.blocks-2.ensures.used) c.first_of.result c.is_some.result
    c.is_some.ensures c.first_of.ensures
