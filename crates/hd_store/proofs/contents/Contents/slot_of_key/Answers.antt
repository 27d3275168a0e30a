use Rattle.hd_store.proofs.StoreWords.{SearchSteps, ap, buckets_of, name_in, parts, slot_of_key, subst, ◌∙◌}
use Rattle.hd_store.proofs.{EntrySearch.found-is, EntrySearch.search-steps, HeldRoom.found-held}
use Rattle.hd_store.proofs.contents.Contents.slot_of_key.Goals as goal

pub returns-clause-value : goal.returns-clause-value
returns-clause-value g c =
    found-is (parts c.self.inside) c.args.self.now c.self.view_is c.find.ensures.table c.id.result
    c.find.result c.find.ensures.found c.find.ensures.none
    ∙ ap (slot_of_key c.args.self.now.state) c.id.ensures

pub returns-clause-held : goal.returns-clause-held
returns-clause-held g c =
    found-held c.args.self.now.state (name_in c.args.self.now.names c.args.key) c.find.result
    (returns-clause-value g c)

pub returns-clause-steps : goal.returns-clause-steps
returns-clause-steps g c =
    let n = c.args.self.now.numbers in
    subst
    (λ k. SearchSteps (buckets_of n.blocks n.callers) c.args.self.now.state k c.args.steps.now
    c.find.new.steps) c.id.ensures
    (search-steps (parts c.self.inside) c.args.self.now c.self.view_is c.self.invariant c.id.result
    c.args.steps.now c.find.new.steps c.find.result (found-is (parts c.self.inside) c.args.self.now
    c.self.view_is c.find.ensures.table c.id.result c.find.result c.find.ensures.found c.find.ensures.none)
    c.find.ensures.steps)
