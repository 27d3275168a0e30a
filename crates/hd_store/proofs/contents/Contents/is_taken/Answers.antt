use Rattle.hd_store.proofs.StoreWords.{ap, get, is_some, not_there, parts, sym, ◌∙◌}
use Rattle.hd_store.proofs.SpareBlocks.{handle_there, held_nothing, held_taken, nothing_there}
use Rattle.hd_store.proofs.contents.Contents.is_taken.Goals as goal

pub returns-then-not-is_live-clause-nothing : goal.returns-then-not-is_live-clause-nothing
returns-then-not-is_live-clause-nothing c = λ _. nothing_there (parts c.self.inside) c.args.self.now c.self.view_is
    c.self.invariant c.args.slot (not_there (get c.self.inside.table.rows c.args.slot.0)
    (sym c.is_live.ensures.value ∙ c.if-not-is_live.true))

pub returns-then-not-held-clause-taken : goal.returns-then-not-held-clause-taken
returns-then-not-held-clause-taken c = λ _. handle_there (parts c.self.inside) c.args.self.now c.self.view_is
    c.self.invariant c.args.slot (sym c.is_live.ensures.value ∙ c.if-not-is_live.false)
    (not_there (get c.self.inside.weak.held c.args.slot.0) (sym c.held.ensures.value ∙ c.if-not-held.true))

pub target-requires : goal.target-requires
target-requires c = sym c.is_live.ensures.value ∙ c.if-not-is_live.false

pub returns-clause-taken : goal.returns-clause-taken
returns-clause-taken c = λ yes. held_taken (parts c.self.inside) c.args.self.now c.self.view_is c.self.invariant
    c.args.slot (sym c.held.ensures.value ∙ c.if-not-held.false)
    (sym (ap is_some c.target.ensures.value) ∙ sym c.is_some.ensures ∙ yes)

pub returns-clause-nothing : goal.returns-clause-nothing
returns-clause-nothing c = λ no. held_nothing (parts c.self.inside) c.args.self.now c.self.view_is c.self.invariant
    c.args.slot (sym c.held.ensures.value ∙ c.if-not-held.false)
    (sym (ap is_some c.target.ensures.value) ∙ sym c.is_some.ensures ∙ no)
