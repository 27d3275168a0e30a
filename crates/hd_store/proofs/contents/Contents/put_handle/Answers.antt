use Rattle.hd_store.proofs.StoreWords.{Some, ap, extra_of, fits_in, handles_of, parts, subst, sym, true, with_row, ◌/◌, ◌∙◌, ◌≡◌}
use Rattle.hd_seg.specs.Row.{handle_of as row_handle}
use Rattle.hd_model.specs.Handles.{handle_of}
use Rattle.hd_store.proofs.StoreRows.{vacant-row, not-held, use-read, kind-read, row-put}
use Rattle.hd_store.proofs.contents.Contents.put_handle.Goals.{After-put_row}
use Rattle.hd_store.proofs.contents.Contents.put_handle.Goals as goal
use Rattle.hd_model.specs.declared.limits.TheConstants.{ROWS}

pub put_row-requires-clause-vacant : goal.put_row-requires-clause-vacant
put_row-requires-clause-vacant c =
    vacant-row (parts c.self.inside) c.args.self.now c.self.view_is c.args.slot c.requires.free.no_handle
    c.requires.free.not_weak

pub put_row-requires-clause-fitting : goal.put_row-requires-clause-fitting
put_row-requires-clause-fitting c =
    subst (λ u. fits_in u (extra_of c.args.handle.extra) ≡ true)
    (sym (use-read (parts c.self.inside) c.args.self.now c.self.view_is (c.args.slot.0 / ROWS)
    (Some (handles_of c.args.handle.kind)) c.requires.free.of_kind)) c.requires.may.fits

after : (c : After-put_row) → c.put_row.new.self ≡ with_row c.self.inside.table c.args.slot.0
    (handle_of c.args.handle)
after c =
    c.put_row.ensures ∙ ap (λ k. with_row c.self.inside.table c.args.slot.0
    (row_handle k (record { target = c.args.handle.target; extra = c.args.handle.extra })))
    (kind-read (parts c.self.inside) c.args.self.now c.self.view_is c.args.slot c.args.handle.kind
    c.requires.free.of_kind)

pub invariant_of-self : goal.invariant_of-self
invariant_of-self c =
    (row-put (parts c.self.inside) c.args.self.now c.self.view_is c.self.invariant c.args.slot
    (handle_of c.args.handle) (not-held (parts c.self.inside) c.args.self.now c.self.view_is c.args.slot
    c.requires.free.not_weak) c.requires.may c.put_row.new.self (after c)).0

pub returns : goal.returns
returns c =
    (row-put (parts c.self.inside) c.args.self.now c.self.view_is c.self.invariant c.args.slot
    (handle_of c.args.handle) (not-held (parts c.self.inside) c.args.self.now c.self.view_is c.args.slot
    c.requires.free.not_weak) c.requires.may c.put_row.new.self (after c)).1
