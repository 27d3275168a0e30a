use Rattle.hd_host.proofs.{PaddedEntries.other_padded, PaddedEntries.own_padded, SlotOfHandle.live_by, SlotOfHandle.stale_by}
use Rattle.std.specs.Prelude.{◌%◌, ◌^◌}
use Rattle.hd_host.proofs.host.Host.live_slot.Goals as goal

pub returns-then-is_live : goal.returns-then-is_live
returns-then-is_live c =
    live_by c.self.invariant.host c.self.view_is c.args.handle c.slot.ensures
    (own_padded c.self.inside.limit c.self.inside.stamps (c.args.handle.0 % 2 ^ 24) c.args.handle.0
    (c.is_live.ensures.own c.if-is_live.true))

pub returns-else-is_live : goal.returns-else-is_live
returns-else-is_live c =
    stale_by c.self.invariant.host c.self.view_is
    (other_padded c.self.inside.limit c.self.inside.stamps c.args.handle.0 c.self.invariant.sized.most
    c.self.invariant.sized.within (c.is_live.ensures.other c.if-is_live.false))
