use Rattle.hd_cwt.proofs.Basics.{None, ap, arith, ◌∙◌}
use Rattle.hd_cwt.proofs.EntryCalls.{slot_low, node_low, back_low, before_low, room_low, clear_entries, viewed}
use Rattle.std.specs.FinSet.{insert}
use Rattle.hd_cwt.proofs.entries.Entries.clear.Goals as goal

pub index-before-requires : goal.index-before-requires
index-before-requires c =
    let known =
    back_low c.self.invariant c.self.view_is c.args.slot
    (slot_low c.self.invariant c.self.view_is c.args.slot c.requires) in
    omega (arith, c.self.inside.rings.previous.ok.0, known)

pub index_mut-requires : goal.index_mut-requires
index_mut-requires c =
    omega (arith, c.self.inside.held.ok.0, slot_low c.self.invariant c.self.view_is c.args.slot c.requires)

pub exchange-requires-clause-a : goal.exchange-requires-clause-a
exchange-requires-clause-a c =
    before_low c.self.invariant c.self.view_is c.args.slot
    (slot_low c.self.invariant c.self.view_is c.args.slot c.requires) c.index-before.result.now
    c.index-before.ensures

pub exchange-requires-clause-b : goal.exchange-requires-clause-b
exchange-requires-clause-b c =
    node_low c.self.invariant c.self.view_is c.args.slot
    (slot_low c.self.invariant c.self.view_is c.args.slot c.requires)

pub insert-requires : goal.insert-requires
insert-requires c =
    let low = room_low c.self.invariant c.self.view_is c.args.slot
    (slot_low c.self.invariant c.self.view_is c.args.slot c.requires) in
    omega (arith, low)

pub invariant_of-self : goal.invariant_of-self
invariant_of-self c =
    clear_entries c.self.invariant c.self.view_is c.args.slot
    (slot_low c.self.invariant c.self.view_is c.args.slot c.requires)
    c.exchange.new.self.next.items c.exchange.new.self.previous.items c.index-before.result.now
    c.index-before.ensures c.exchange.ensures.next c.exchange.ensures.previous
    (c.insert.ensures
    ∙ ap (λ s. record c.self.inside.idle { members = insert c.self.inside.idle.members s }) (omega arith))

pub returns : goal.returns
returns c =
    viewed c.self.invariant c.self.view_is c.args.slot None
    (slot_low c.self.invariant c.self.view_is c.args.slot c.requires)
