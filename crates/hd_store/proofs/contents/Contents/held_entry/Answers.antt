use Rattle.hd_store.proofs.StoreWords.{Some, ap, get, is_some, option_map, parts, sym, ◌∙◌}
use Rattle.hd_seg.specs.Row.{row_of}
use Rattle.hd_store.specs.Info.{entry_seen}
use Rattle.hd_store.proofs.{IdentityReadings.is_some-map, EntrySearch.weak-row-live}
use Rattle.hd_store.proofs.HeldEntries.{idle-read, entry-read, key-known}
use Rattle.hd_store.proofs.contents.Contents.held_entry.Goals as goal

pub unwrap-row-requires : goal.unwrap-row-requires
unwrap-row-requires c =
    ap is_some c.row.ensures.value ∙ is_some-map row_of (get c.self.inside.table.rows c.args.slot.0)
    ∙ weak-row-live (parts c.self.inside) c.args.self.now c.self.view_is c.self.invariant c.args.slot.0
    c.requires

pub returns-in_err-key : goal.returns-in_err-key
returns-in_err-key c =
    idle-read (parts c.self.inside) c.args.self.now c.self.view_is c.self.invariant c.args.slot c.requires
    c.unwrap-row.result (sym c.unwrap-row.ensures ∙ c.row.ensures.value) c.in_err-key.was
    ∙ ap (λ o. Some (option_map entry_seen o)) (sym c.from_residual.ensures)

pub id-requires : goal.id-requires
id-requires c =
    key-known (parts c.self.inside) c.args.self.now c.self.view_is c.self.invariant c.args.slot c.requires
    c.unwrap-row.result (sym c.unwrap-row.ensures ∙ c.row.ensures.value) c.in_ok-key.key c.in_ok-key.was

pub returns : goal.returns
returns c =
    entry-read (parts c.self.inside) c.args.self.now c.self.view_is c.self.invariant c.args.slot c.requires
    c.unwrap-row.result (sym c.unwrap-row.ensures ∙ c.row.ensures.value) c.in_ok-key.key c.in_ok-key.was
    c.id.result c.named.result c.id.ensures (c.named.ensures ∙ c.entry_value-value.ensures.value)
