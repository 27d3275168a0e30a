use Rattle.hd_store.specs.Store.{seen_by}
use Rattle.hd_store.proofs.StoreWords.{IsStored, ap, machine_of, parts, subst, sym, without_handle, ◌≡◌}
use Rattle.hd_store.proofs.StoreRows.{with_table, stored-end, machine-end, live-row, live-free}
use Rattle.hd_store.proofs.parts.ContentsParts.take_handle.Goals as goal

pub take_row-requires : goal.take_row-requires
take_row-requires c = live-row (parts c.self.inside) c.args.self.now c.self.view_is c.args.slot c.requires

pub invariant_of-self : goal.invariant_of-self
invariant_of-self c = subst (λ t. IsStored (with_table (parts c.self.inside) t)) (sym c.take_row.ensures)
    (stored-end (parts c.self.inside) c.args.slot.0 c.self.invariant
    (live-free (parts c.self.inside) c.args.self.now c.self.view_is c.args.slot c.requires))

pub returns : goal.returns
returns c =
    let m = c.args.self.now in
    ap seen_by (subst (λ t. machine_of (with_table (parts c.self.inside) t)
    ≡ record m { state = without_handle m.state c.args.slot; table = t }) (sym c.take_row.ensures)
    (machine-end (parts c.self.inside) m c.self.view_is c.args.slot
    (live-free (parts c.self.inside) m c.self.view_is c.args.slot c.requires)))
