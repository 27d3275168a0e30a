use Rattle.hd_store.proofs.StoreWords.{Dependent, Machine, ap, ◌∙◌}
use Rattle.hd_store.proofs.WeakRoom.{brings-on, grown-weak}
use Rattle.hd_store.proofs.on_entries.put_entry.Goals as goal

pub hold_entry-requires-clause-table : goal.hold_entry-requires-clause-table
hold_entry-requires-clause-table c =
    let got = c.in-Ok.ensures.slot_given in
    brings-on c.args.store.now c.lower_age-2.new.self c.in_ok-table.table
    (ap (λ (m : Machine). m.numbers) c.lower_age-2.ensures ∙ ap (λ (m : Machine). m.numbers) got.store)
    (ap (λ (m : Machine). m.state.weak) c.lower_age-2.ensures
    ∙ ap (λ (m : Machine). m.state.weak) got.store
    ∙ grown-weak c.args.store.now.state Dependent c.in-Ok.slot_given.1)
    (c.in_ok-table.ensures.table (λ none. (got.grows none).1))
