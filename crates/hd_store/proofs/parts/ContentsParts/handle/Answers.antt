use Rattle.hd_store.proofs.StoreWords.{Addr, Some, ap, get, id_at, is_some, not_there, option_map, parts, refl, rename_handle, seen_by, sym, ◌∙◌}
use Rattle.hd_commands.specs.{Handles.handle_named}
use Rattle.hd_model.specs.{declared.handle.Handle.Handle}
use Rattle.hd_store.proofs.{StoreRows.row-read, StoreRows.held-read}
use Rattle.hd_store.proofs.SlotHandle.{no_row, has-row, kind-known, handle-is, handle-may, slot-within}
use Rattle.hd_store.proofs.parts.ContentsParts.handle.Goals as goal

pub returns-then-held-clause-value : goal.returns-then-held-clause-value
returns-then-held-clause-value c =
    held-read (parts c.self.inside) c.args.self.now c.self.view_is c.args.slot
    (sym c.held.ensures.value ∙ c.if-held.true)

pub returns-in_err-row-clause-value : goal.returns-in_err-row-clause-value
returns-in_err-row-clause-value c =
    row-read (parts c.self.inside) c.args.self.now c.self.view_is c.args.slot
    (not_there (get c.self.inside.weak.held c.args.slot.0) (sym c.held.ensures.value ∙ c.if-held.false))
    ∙ ap (option_map (rename_handle (id_at c.self.inside.heap))) (no_row _ (sym c.in_err-row.ensures.value))
    ∙ sym (ap (option_map (λ (h : Handle Addr). handle_named (seen_by c.args.self.now) h))
    c.from_residual.ensures)

pub live_kind-kind-requires : goal.live_kind-kind-requires
live_kind-kind-requires c =
    has-row (get c.self.inside.table.rows c.args.slot.0) c.in_ok-row.row c.in_ok-row.ensures.value

pub returns-clause-value : goal.returns-clause-value
returns-clause-value c =
    handle-is (parts c.self.inside) c.args.self.now c.self.view_is c.self.invariant c.in_ok-row.ensures.table
    c.args.slot (not_there (get c.self.inside.weak.held c.args.slot.0)
    (sym c.held.ensures.value ∙ c.if-held.false)) c.in_ok-row.row c.in_ok-row.ensures.value
    c.live_kind-kind.result (ap Some c.live_kind-kind.ensures.value
    ∙ kind-known (parts c.self.inside) c.args.self.now c.self.view_is c.args.slot
    (has-row (get c.self.inside.table.rows c.args.slot.0) c.in_ok-row.row c.in_ok-row.ensures.value)
    c.in_ok-row.ensures.table) _ refl

pub returns-clause-may : goal.returns-clause-may
returns-clause-may c =
    handle-may (parts c.self.inside) c.args.self.now c.self.view_is c.self.invariant c.in_ok-row.ensures.table
    c.args.slot (not_there (get c.self.inside.weak.held c.args.slot.0)
    (sym c.held.ensures.value ∙ c.if-held.false)) c.in_ok-row.row c.in_ok-row.ensures.value
    c.live_kind-kind.result (ap Some c.live_kind-kind.ensures.value
    ∙ kind-known (parts c.self.inside) c.args.self.now c.self.view_is c.args.slot
    (has-row (get c.self.inside.table.rows c.args.slot.0) c.in_ok-row.row c.in_ok-row.ensures.value)
    c.in_ok-row.ensures.table) _ refl

pub returns-clause-within : goal.returns-clause-within
returns-clause-within c =
    slot-within c.args.self.now c.requires c.args.slot (ap is_some (returns-clause-value c))
