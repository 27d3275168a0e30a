use Rattle.hd_store.proofs.StoreWords.{ap, entry_named, get, id_at, is_some, not_there, option_map, parts, sym, ◌∙◌}
use Rattle.hd_store.proofs.{IdentityReadings.is_some-map, EntrySearch.weak-read}
use Rattle.hd_store.proofs.contents.Contents.entry.Goals as goal

pub returns-then-not-held : goal.returns-then-not-held
returns-then-not-held c =
    weak-read (parts c.self.inside) c.args.self.now c.self.view_is c.args.slot.0
    ∙ ap (option_map (entry_named (id_at c.self.inside.heap) (get c.self.inside.table.rows c.args.slot.0)))
    (not_there (get c.self.inside.weak.held c.args.slot.0) (sym c.held.ensures.value ∙ c.if-not-held.true))

pub held_entry-requires : goal.held_entry-requires
held_entry-requires c =
    ap is_some (weak-read (parts c.self.inside) c.args.self.now c.self.view_is c.args.slot.0)
    ∙ is_some-map (entry_named (id_at c.self.inside.heap) (get c.self.inside.table.rows c.args.slot.0))
    (get c.self.inside.weak.held c.args.slot.0) ∙ sym c.held.ensures.value ∙ c.if-not-held.false
