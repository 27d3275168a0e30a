use Rattle.hd_cwt.proofs.Basics.{Some, ap, arith, ◌∙◌}
use Rattle.hd_cwt.proofs.EntryCalls.{put_entries, room_low, slot_low, viewed}
use Rattle.std.specs.FinSet.{remove}
use Rattle.hd_cwt.proofs.entries.Entries.put.Goals as goal

pub remove-requires : goal.remove-requires
remove-requires c =
    let low = room_low c.self.invariant c.self.view_is c.args.slot
    (slot_low c.self.invariant c.self.view_is c.args.slot c.requires.within) in
    omega (arith, low)

pub invariant_of-self : goal.invariant_of-self
invariant_of-self c =
    put_entries c.self.invariant c.self.view_is c.args.slot
    (slot_low c.self.invariant c.self.view_is c.args.slot c.requires.within)
    c.exchange.new.self.next.items c.exchange.new.self.previous.items c.args.key c.requires.free
    c.bucket-end.result c.bucket-end.ensures c.exchange.ensures.next c.exchange.ensures.previous
    (c.remove.ensures
    ∙ ap (λ s. record c.self.inside.idle { members = remove c.self.inside.idle.members s }) (omega arith))

pub returns : goal.returns
returns c =
    viewed c.self.invariant c.self.view_is c.args.slot (Some c.args.key)
    (slot_low c.self.invariant c.self.view_is c.args.slot c.requires.within)
