use Rattle.hd_store.proofs.StoreWords.{ap, entry_named, get, id_at, is_some, not_there, option_map, parts, sym, ◌∙◌}
use Rattle.hd_store.proofs.{EntrySearch.weak-read, IdentityReadings.is_some-map}
use Rattle.hd_store.proofs.contents.Contents.is_held.Goals as goal

pub returns-clause-held : goal.returns-clause-held
returns-clause-held c = λ yes. ap is_some (weak-read (parts c.self.inside) c.args.self.now c.self.view_is c.args.slot.0)
    ∙ is_some-map _ (get c.self.inside.weak.held c.args.slot.0) ∙ sym c.held.ensures.value ∙ yes

pub returns-clause-other : goal.returns-clause-other
returns-clause-other c = λ no. weak-read (parts c.self.inside) c.args.self.now c.self.view_is c.args.slot.0
    ∙ ap (option_map (entry_named (id_at c.self.inside.heap) (get c.self.inside.table.rows c.args.slot.0)))
    (not_there (get c.self.inside.weak.held c.args.slot.0) (sym c.held.ensures.value ∙ no))
