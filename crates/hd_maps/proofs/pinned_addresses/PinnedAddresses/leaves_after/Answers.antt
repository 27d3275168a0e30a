use Rattle.std.proofs.Common.{◌+◌}
use Rattle.hd_maps.proofs.PinnedMaps.{after_none, after_some}
use Rattle.std.specs.FinMap.{empty}
use Rattle.hd_maps.proofs.pinned_addresses.PinnedAddresses.leaves_after.Goals as goal

pub returns-in-Some : goal.returns-in-Some
returns-in-Some c =
    after_some empty c.self.inside.by_id c.self.inside.by_address c.args.self.now c.self.invariant
    c.self.view_is
    c.args.address c.from.result c.from.ensures c.in-Some.other c.from-in-Some.result c.from-in-Some-2.result
    c.args.size c.in-Some.ensures c.from-in-Some.ensures c.from-in-Some-2.ensures

pub returns-in-None : goal.returns-in-None
returns-in-None c =
    after_none empty c.self.inside.by_id c.self.inside.by_address c.args.self.now c.self.invariant
    c.self.view_is
    c.args.address c.from.result c.from.ensures (c.args.address + c.args.size) c.in-None.ensures
