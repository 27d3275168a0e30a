use Rattle.std.proofs.Common.{sym, ◌∙◌}
use Rattle.hd_maps.proofs.PinnedMaps.{before_none, before_some}
use Rattle.hd_maps.proofs.pinned_addresses.PinnedAddresses.leaves_before.Goals as goal

pub returns-in_default : goal.returns-in_default
returns-in_default c =
    before_none c.args.objects.now c.self.inside.by_id c.self.inside.by_address c.args.self.now
    c.self.invariant
    c.self.view_is c.args.address c.from.result c.from.ensures c.in_default.ensures

pub returns : goal.returns
returns c =
    before_some c.args.objects.now c.self.inside.by_id c.self.inside.by_address c.args.self.now
    c.self.invariant
    c.self.view_is c.args.address c.from.result c.from.ensures c.requires.apart c.in-Some.other
    c.in-Some-get.id.now c.from-2.result c.from-3.result c.in-Some.ensures (sym c.in-Some-get.ensures)
    (c.from-2.ensures ∙ c.size_of.ensures) c.from-3.ensures
