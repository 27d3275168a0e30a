use Rattle.std.proofs.Common.{sym}
use Rattle.hd_maps.proofs.WeakCalls.{found_slot, found_none}
use Rattle.hd_maps.proofs.weak.Weak.slot_of.Goals as goal

pub returns-in-Some : goal.returns-in-Some
returns-in-Some c =
    found_slot c.self.invariant c.self.view_is c.args.key c.in-Some.slot.now (sym c.in-Some.ensures)

pub returns-in-None : goal.returns-in-None
returns-in-None c = found_none c.self.invariant c.self.view_is c.args.key (sym c.in-None.ensures)
