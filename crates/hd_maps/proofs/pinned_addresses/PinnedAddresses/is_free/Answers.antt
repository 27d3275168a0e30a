use Rattle.hd_maps.proofs.PinnedMaps.{free_if_after, not_free}
use Rattle.hd_maps.proofs.pinned_addresses.PinnedAddresses.is_free.Goals as goal

pub returns-then-before : goal.returns-then-before
returns-then-before c =
    free_if_after c.args.objects.now c.args.self.now c.args.address c.args.size c.requires.some
    c.leaves_before-before.result c.leaves_after-after.result c.if-before.true c.leaves_before-before.ensures
    c.leaves_after-after.ensures

pub returns-else-before : goal.returns-else-before
returns-else-before c =
    not_free c.args.objects.now c.args.self.now c.args.address c.args.size c.requires.some
    c.leaves_before-before.result c.if-before.false c.leaves_before-before.ensures
