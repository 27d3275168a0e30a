use Rattle.hd_store.proofs.StoreWords.{ap, get, is_some, parts, sym, ◌∙◌}
use Rattle.hd_seg.specs.Row.{row_of}
use Rattle.hd_store.proofs.IdentityReadings.{is_some-map}
use Rattle.hd_store.proofs.EntrySearch.{weak-row-live, no-other-extra, value-read}
use Rattle.hd_store.proofs.contents.Contents.entry_value.Goals as goal

pub unwrap-requires : goal.unwrap-requires
unwrap-requires c =
    ap is_some c.row.ensures.value ∙ is_some-map row_of (get c.self.inside.table.rows c.args.slot.0)
    ∙ weak-row-live (parts c.self.inside) c.args.self.now c.self.view_is c.self.invariant c.args.slot.0
    c.requires

pub returns-in_default : goal.returns-in_default
returns-in_default c =
    absurd (no-other-extra (parts c.self.inside) c.args.self.now c.self.view_is c.self.invariant c.args.slot
    c.requires c.unwrap.result (sym c.unwrap.ensures ∙ c.row.ensures.value) c.in_default.not-Secondary)

pub returns-clause-value : goal.returns-clause-value
returns-clause-value c =
    (value-read (parts c.self.inside) c.args.self.now c.self.view_is c.self.invariant c.args.slot c.requires
    c.unwrap.result (sym c.unwrap.ensures ∙ c.row.ensures.value) c.in-Secondary.value c.in-Secondary.is).0

pub returns-clause-named : goal.returns-clause-named
returns-clause-named c =
    (value-read (parts c.self.inside) c.args.self.now c.self.view_is c.self.invariant c.args.slot c.requires
    c.unwrap.result (sym c.unwrap.ensures ∙ c.row.ensures.value) c.in-Secondary.value c.in-Secondary.is).1
