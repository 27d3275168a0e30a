use Rattle.hd_store.proofs.StoreWords.{Dependent, Some, ap, arith, entry_at, fits_in, get, handles_of, inr, is_some, parts, refl, secondary, slot_of_key, subst, sym, true, with_row, ◌/◌, ◌∙◌, ◌≡◌}
use Rattle.hd_store.proofs.StoreRows.{vacant-row, not-held, use-read, kind-read}
use Rattle.hd_store.proofs.WeakRoom.{brought, brought-wide, stored-brought, view-brought}
use Rattle.hd_store.proofs.{EntrySearch.not-there, EntrySweep.attaching, HeldRoom.room-held}
use Rattle.hd_store.proofs.EntryWrites.{HasPut, row-vacant, put-entry}
use Rattle.hd_store.proofs.contents.Contents.hold_entry.Goals.{After-given-given, After-add_to}
use Rattle.hd_store.proofs.contents.Contents.hold_entry.Goals as goal
use Rattle.hd_model.specs.declared.limits.TheConstants.{ROWS}

pub put_row-requires-clause-vacant : goal.put_row-requires-clause-vacant
put_row-requires-clause-vacant c =
    vacant-row (parts c.self.inside) c.args.self.now c.self.view_is c.args.slot c.requires.free.no_handle
    c.requires.free.not_weak

-- the block of the slot has dependent handles
block : (c : After-given-given)
    → get c.self.inside.table.uses (c.args.slot.0 / ROWS) ≡ Some (handles_of Dependent)
block c =
    use-read (parts c.self.inside) c.args.self.now c.self.view_is (c.args.slot.0 / ROWS)
    (Some (handles_of Dependent)) c.requires.free.of_kind

pub put_row-requires-clause-fitting : goal.put_row-requires-clause-fitting
put_row-requires-clause-fitting c =
    subst (λ u. fits_in u (secondary c.args.value) ≡ true)
    (sym (block (goal.at.put_row-requires-clause-fitting c).After-given-given)) refl

-- the parts with the weak table that has room
pub add_to-requires-clause-within : goal.add_to-requires-clause-within
add_to-requires-clause-within c =
    let here = block (goal.at.add_to-requires-clause-within c).After-given-given in
    let inside = c.self.invariant.uses.within (c.args.slot.0 / ROWS) (ap is_some here) in
    let wide = brought-wide (parts c.self.inside) c.self.invariant c.args.self.now c.self.view_is c.args.table
    c.requires.table in
    omega (arith, inside.1, wide.blocks_are)

pub add_to-requires-clause-slot : goal.add_to-requires-clause-slot
add_to-requires-clause-slot c =
    let f = parts c.self.inside in
    let wide = brought-wide f c.self.invariant c.args.self.now c.self.view_is c.args.table c.requires.table in
    let after = brought f c.self.invariant c.args.self.now c.self.view_is c.args.table c.requires.table in
    let free = not-held after c.args.self.now
    (view-brought f c.self.invariant c.args.self.now c.self.view_is c.args.table c.requires.table) c.args.slot
    c.requires.free.not_weak in
    let few = room-held after
    (stored-brought f c.self.invariant c.args.self.now c.self.view_is c.args.table c.requires.table)
    c.given-given.ensures.table c.args.slot.0 free
    (block (goal.at.add_to-requires-clause-slot c).After-given-given) in
    inr (free, omega (arith, few, wide.blocks_are))

pub add_to-requires-clause-new : goal.add_to-requires-clause-new
add_to-requires-clause-new c =
    let f = parts c.self.inside in
    not-there (brought f c.self.invariant c.args.self.now c.self.view_is c.args.table c.requires.table)
    c.args.self.now
    (view-brought f c.self.invariant c.args.self.now c.self.view_is c.args.table c.requires.table)
    c.id-id.result
    (ap (slot_of_key c.args.self.now.state) c.id-id.ensures ∙ c.requires.new)

row : (c : After-add_to) → c.put_row.new.self ≡ with_row c.self.inside.table c.args.slot.0
    (attaching (Some c.args.key) c.args.value)
row c =
    c.put_row.ensures
    ∙ ap (λ k. with_row c.self.inside.table c.args.slot.0
    (record { kind = k; target = Some c.args.key; extra = secondary c.args.value }))
    (kind-read (parts c.self.inside) c.args.self.now c.self.view_is c.args.slot Dependent
    c.requires.free.of_kind)

after : (c : After-add_to) → HasPut (parts c.self.inside) c.args.self.now c.args.slot
    (Some (entry_at c.args.self.now.names c.args.key c.args.value)) c.put_row.new.self c.add_to.new.weak
after c =
    let f = parts c.self.inside in
    let came = brought f c.self.invariant c.args.self.now c.self.view_is c.args.table c.requires.table in
    let view = view-brought f c.self.invariant c.args.self.now c.self.view_is c.args.table c.requires.table in
    put-entry came c.args.self.now view
    (stored-brought f c.self.invariant c.args.self.now c.self.view_is c.args.table c.requires.table)
    c.args.slot
    (brought-wide f c.self.invariant c.args.self.now c.self.view_is c.args.table c.requires.table) c.args.key
    c.args.value c.id-id.result c.requires.may c.id-id.ensures
    (row-vacant c.self.inside.table.rows came.weak.held c.args.slot.0
    (vacant-row came c.args.self.now view c.args.slot c.requires.free.no_handle c.requires.free.not_weak))
    c.put_row.new.self c.add_to.new.weak (row c) c.add_to.ensures

pub invariant_of-self : goal.invariant_of-self
invariant_of-self c = (after c).0

pub returns : goal.returns
returns c = (after c).1
