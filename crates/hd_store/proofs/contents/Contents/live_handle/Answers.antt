use Rattle.hd_store.proofs.StoreWords.{Some, ap, is_paired, parts, refl, sym, ◌∙◌}
use Rattle.hd_store.proofs.StoreRows.{live-free, live-row}
use Rattle.hd_store.proofs.SlotHandle.{handle-is, handle-may, kind-known, row-there, slot-within}
use Rattle.hd_store.proofs.contents.Contents.live_handle.Goals as goal

pub live_kind-kind-requires : goal.live_kind-kind-requires
live_kind-kind-requires c =
    live-row (parts c.self.inside) c.args.self.now c.self.view_is c.args.slot c.requires.live

pub row_by-row-requires-clause-live : goal.row_by-row-requires-clause-live
row_by-row-requires-clause-live c =
    live-row (parts c.self.inside) c.args.self.now c.self.view_is c.args.slot c.requires.live

pub row_by-row-requires-clause-paired : goal.row_by-row-requires-clause-paired
row_by-row-requires-clause-paired c =
    ap is_paired (sym c.live_kind-kind.ensures.value) ∙ sym c.paired.ensures

pub returns-clause-is : goal.returns-clause-is
returns-clause-is c =
    let f = parts c.self.inside in
    let m = c.args.self.now in
    handle-is f m c.self.view_is c.self.invariant c.live_kind-kind.ensures.table c.args.slot
    (live-free f m c.self.view_is c.args.slot c.requires.live) c.row_by-row.result
    (ap Some c.row_by-row.ensures.value ∙ row-there f m c.self.view_is c.args.slot (live-row f m c.self.view_is c.args.slot c.requires.live))
    c.live_kind-kind.result (ap Some c.live_kind-kind.ensures.value
    ∙ kind-known f m c.self.view_is c.args.slot (live-row f m c.self.view_is c.args.slot c.requires.live)
    c.live_kind-kind.ensures.table) _ refl

pub returns-clause-may : goal.returns-clause-may
returns-clause-may c =
    let f = parts c.self.inside in
    let m = c.args.self.now in
    handle-may f m c.self.view_is c.self.invariant c.live_kind-kind.ensures.table c.args.slot
    (live-free f m c.self.view_is c.args.slot c.requires.live) c.row_by-row.result
    (ap Some c.row_by-row.ensures.value ∙ row-there f m c.self.view_is c.args.slot (live-row f m c.self.view_is c.args.slot c.requires.live))
    c.live_kind-kind.result (ap Some c.live_kind-kind.ensures.value
    ∙ kind-known f m c.self.view_is c.args.slot (live-row f m c.self.view_is c.args.slot c.requires.live)
    c.live_kind-kind.ensures.table) _ refl

pub returns-clause-within : goal.returns-clause-within
returns-clause-within c = slot-within c.args.self.now c.requires.handles c.args.slot c.requires.live
