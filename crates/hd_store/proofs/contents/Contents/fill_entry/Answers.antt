use Rattle.hd_store.proofs.StoreWords.{None, Some, ap, entry_at, inl, is_some, parts, refl, secondary, slot_of_key, ◌∙◌}
use Rattle.hd_store.proofs.EntrySearch.{at-idle, not-there}
use Rattle.hd_store.proofs.EntryWrites.{HasPut, weak-live, weak-kind, weak-vacant, put-entry}
use Rattle.hd_store.proofs.WeakRoom.{held-wide}
use Rattle.hd_store.proofs.StoreRows.{still-live, still-fits, rewritten}
use Rattle.hd_store.proofs.contents.Contents.fill_entry.Goals.{After-add}
use Rattle.hd_store.proofs.contents.Contents.fill_entry.Goals as goal

pub set_row-requires : goal.set_row-requires
set_row-requires c =
    weak-live (parts c.self.inside) c.args.self.now c.self.view_is c.self.invariant c.args.slot None
    c.requires.idle

pub set_extra-requires-clause-live : goal.set_extra-requires-clause-live
set_extra-requires-clause-live c =
    still-live c.self.inside.table c.args.slot.0
    (weak-kind (parts c.self.inside) c.args.self.now c.self.view_is c.self.invariant c.args.slot
    None c.requires.idle) (Some c.args.key) c.set_row.ensures

pub set_extra-requires-clause-fitting : goal.set_extra-requires-clause-fitting
set_extra-requires-clause-fitting c =
    still-fits c.self.inside.table c.args.slot.0
    (weak-kind (parts c.self.inside) c.args.self.now c.self.view_is c.self.invariant c.args.slot
    None c.requires.idle) (Some c.args.key) c.set_row.ensures (secondary c.args.value) refl

pub add-requires-clause-new : goal.add-requires-clause-new
add-requires-clause-new c =
    not-there (parts c.self.inside) c.args.self.now c.self.view_is c.id-id.result
    (ap (slot_of_key c.args.self.now.state) c.id-id.ensures ∙ c.requires.new)

pub add-requires-clause-within : goal.add-requires-clause-within
add-requires-clause-within c =
    c.held_count-held.ensures.table.within c.args.slot.0 (ap is_some
    (at-idle (parts c.self.inside) c.args.self.now c.self.view_is c.args.slot.0 c.requires.idle))

pub add-requires-clause-slot : goal.add-requires-clause-slot
add-requires-clause-slot c =
    inl (at-idle (parts c.self.inside) c.args.self.now c.self.view_is c.args.slot.0 c.requires.idle)

after : (c : After-add) → HasPut (parts c.self.inside) c.args.self.now c.args.slot
    (Some (entry_at c.args.self.now.names c.args.key c.args.value)) c.set_extra.new.self c.add.new.self
after c =
    put-entry (parts c.self.inside) c.args.self.now c.self.view_is c.self.invariant c.args.slot
    (held-wide (parts c.self.inside) c.self.invariant c.args.slot.0 (ap is_some
    (at-idle (parts c.self.inside) c.args.self.now c.self.view_is c.args.slot.0 c.requires.idle))) c.args.key
    c.args.value c.id-id.result c.requires.may c.id-id.ensures
    (weak-vacant (parts c.self.inside) c.args.self.now c.self.view_is c.self.invariant c.args.slot None
    c.requires.idle) c.set_extra.new.self c.add.new.self
    (rewritten c.self.inside.table c.args.slot.0
    (weak-kind (parts c.self.inside) c.args.self.now c.self.view_is c.self.invariant c.args.slot
    None c.requires.idle) (Some c.args.key) c.set_row.ensures c.set_extra.new.self (secondary c.args.value)
    c.set_extra.ensures)
    c.add.ensures

pub invariant_of-self : goal.invariant_of-self
invariant_of-self c = (after c).0

pub returns : goal.returns
returns c = (after c).1
