use Rattle.hd_store.proofs.StoreWords.{None, get, parts, refl, secondary, some_value}
use Rattle.hd_store.proofs.EntrySearch.{held-some}
use Rattle.hd_store.proofs.EntryWrites.{HasPut, weak-live, weak-kind, weak-vacant, end-entry}
use Rattle.hd_store.proofs.WeakRoom.{held-wide}
use Rattle.hd_store.proofs.StoreRows.{still-live, still-fits, rewritten}
use Rattle.hd_store.proofs.contents.Contents.clear_entry.Goals.{After-clear}
use Rattle.hd_store.proofs.contents.Contents.clear_entry.Goals as goal

pub set_row-requires : goal.set_row-requires
set_row-requires c =
    let it = some_value (get c.args.self.now.state.weak c.args.slot.0) c.requires in
    weak-live (parts c.self.inside) c.args.self.now c.self.view_is c.self.invariant c.args.slot it.0 it.1

pub set_extra-requires-clause-live : goal.set_extra-requires-clause-live
set_extra-requires-clause-live c =
    let it = some_value (get c.args.self.now.state.weak c.args.slot.0) c.requires in
    still-live c.self.inside.table c.args.slot.0
    (weak-kind (parts c.self.inside) c.args.self.now c.self.view_is c.self.invariant c.args.slot it.0 it.1)
    None c.set_row.ensures

pub set_extra-requires-clause-fitting : goal.set_extra-requires-clause-fitting
set_extra-requires-clause-fitting c =
    let it = some_value (get c.args.self.now.state.weak c.args.slot.0) c.requires in
    still-fits c.self.inside.table c.args.slot.0
    (weak-kind (parts c.self.inside) c.args.self.now c.self.view_is c.self.invariant c.args.slot it.0 it.1)
    None c.set_row.ensures (secondary None) refl

pub clear-requires : goal.clear-requires
clear-requires c =
    held-some (parts c.self.inside) c.args.self.now c.self.view_is c.self.invariant c.args.slot.0 c.requires

after : (c : After-clear)
    → HasPut (parts c.self.inside) c.args.self.now c.args.slot None c.set_extra.new.self c.clear.new.self
after c =
    let it = some_value (get c.args.self.now.state.weak c.args.slot.0) c.requires in
    end-entry (parts c.self.inside) c.args.self.now c.self.view_is c.self.invariant c.args.slot
    (held-wide (parts c.self.inside) c.self.invariant c.args.slot.0 (held-some (parts c.self.inside)
    c.args.self.now c.self.view_is c.self.invariant c.args.slot.0 c.requires))
    (weak-vacant (parts c.self.inside) c.args.self.now c.self.view_is c.self.invariant c.args.slot it.0 it.1)
    c.set_extra.new.self c.clear.new.self
    (rewritten c.self.inside.table c.args.slot.0
    (weak-kind (parts c.self.inside) c.args.self.now c.self.view_is c.self.invariant c.args.slot it.0 it.1)
    None c.set_row.ensures c.set_extra.new.self (secondary None) c.set_extra.ensures)
    c.clear.ensures

pub invariant_of-self : goal.invariant_of-self
invariant_of-self c = (after c).0

pub returns : goal.returns
returns c = (after c).1
