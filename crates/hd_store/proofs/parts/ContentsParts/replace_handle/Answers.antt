use Rattle.hd_store.proofs.StoreWords.{ap, extra_of, fits, parts, with_row, ◌∙◌, ◌≡◌}
use Rattle.hd_model.specs.Handles.{handle_of}
use Rattle.hd_store.proofs.StoreRows.{beside-live, live-kinded, live-kind, live-unheld, retargeted, row-put}
use Rattle.hd_store.proofs.parts.ContentsParts.replace_handle.Goals.{After-set_row}
use Rattle.hd_store.proofs.parts.ContentsParts.replace_handle.Goals as goal

pub set_extra-requires-clause-live : goal.set_extra-requires-clause-live
set_extra-requires-clause-live c =
    live-kinded (parts c.self.inside) c.args.self.now c.self.view_is c.args.slot c.args.handle.kind
    c.requires.live

pub set_extra-requires-clause-fitting : goal.set_extra-requires-clause-fitting
set_extra-requires-clause-fitting c =
    ap (λ k. fits k (extra_of c.args.handle.extra))
    (live-kind (parts c.self.inside) c.args.self.now c.self.view_is c.args.slot c.args.handle.kind
    c.requires.live)
    ∙ c.requires.may.fits

pub set_row-requires : goal.set_row-requires
set_row-requires c =
    beside-live c.self.inside.table c.args.slot.0
    (live-kind (parts c.self.inside) c.args.self.now c.self.view_is c.args.slot c.args.handle.kind
    c.requires.live) (extra_of c.args.handle.extra) c.set_extra.ensures

after : (c : After-set_row) → c.set_row.new.self ≡ with_row c.self.inside.table c.args.slot.0
    (handle_of c.args.handle)
after c =
    retargeted c.self.inside.table c.args.slot.0
    (live-kind (parts c.self.inside) c.args.self.now c.self.view_is c.args.slot c.args.handle.kind
    c.requires.live) (extra_of c.args.handle.extra) c.set_extra.ensures c.set_row.new.self
    c.args.handle.target c.set_row.ensures

pub invariant_of-self : goal.invariant_of-self
invariant_of-self c =
    (row-put (parts c.self.inside) c.args.self.now c.self.view_is c.self.invariant c.args.slot
    (handle_of c.args.handle) (live-unheld (parts c.self.inside) c.args.self.now c.self.view_is c.args.slot
    c.args.handle.kind c.requires.live) c.requires.may c.set_row.new.self (after c)).0

pub returns : goal.returns
returns c =
    (row-put (parts c.self.inside) c.args.self.now c.self.view_is c.self.invariant c.args.slot
    (handle_of c.args.handle) (live-unheld (parts c.self.inside) c.args.self.now c.self.view_is c.args.slot
    c.args.handle.kind c.requires.live) c.requires.may c.set_row.new.self (after c)).1
