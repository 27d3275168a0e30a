use Rattle.hd_store.proofs.StoreWords.{IsNamed, Some, ap, live_at, named_in, parts, subst, sym, ◌∙◌}
use Rattle.hd_seg.specs.Row.{row_of}
use Rattle.hd_store.proofs.StoreRows.{live-free, live-row}
use Rattle.hd_store.proofs.SlotHandle.{row-there, target-is, target-named}
use Rattle.hd_store.proofs.contents.Contents.live_target.Goals as goal

pub target-requires : goal.target-requires
target-requires c = live-row (parts c.self.inside) c.args.self.now c.self.view_is c.args.slot c.requires

pub returns-clause-value : goal.returns-clause-value
returns-clause-value c =
    let f = parts c.self.inside in
    target-is f c.args.self.now c.self.view_is c.self.invariant c.target.ensures.table c.args.slot
    (live-free f c.args.self.now c.self.view_is c.args.slot c.requires)
    (row_of (live_at f.table c.args.slot.0)) (row-there f c.args.self.now c.self.view_is c.args.slot
    (live-row f c.args.self.now c.self.view_is c.args.slot c.requires))
    ∙ ap (λ o. Some (named_in c.args.self.now.names o)) (sym c.target.ensures.value)

pub returns-clause-named : goal.returns-clause-named
returns-clause-named c =
    let f = parts c.self.inside in
    subst (IsNamed c.args.self.now.names) (sym c.target.ensures.value)
    (target-named f c.args.self.now c.self.view_is c.self.invariant c.target.ensures.table c.args.slot
    (live-free f c.args.self.now c.self.view_is c.args.slot c.requires)
    (row_of (live_at f.table c.args.slot.0)) (row-there f c.args.self.now c.self.view_is c.args.slot
    (live-row f c.args.self.now c.self.view_is c.args.slot c.requires)))
