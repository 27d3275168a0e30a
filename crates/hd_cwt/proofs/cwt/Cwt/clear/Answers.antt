use Rattle.hd_cwt.proofs.Basics.{IsSome, WeakTable, get, refl, subst, sym, ◌∙◌}
use Rattle.hd_cwt.proofs.KeyChanges.{clear_idle, clear_listed, held_low, keyed_index, last_low, relisted}
use Rattle.hd_cwt.proofs.cwt.Cwt.clear.Goals as goal

pub clear-requires : goal.clear-requires
clear-requires c =
    c.self.invariant.table.within c.args.slot.0
    (subst (λ (t : WeakTable). IsSome (get t.held c.args.slot.0)) (sym c.self.view_is) c.requires)

pub remove-requires-clause-within : goal.remove-requires-clause-within
remove-requires-clause-within c =
    held_low c.self.invariant c.args.slot.0
    (subst (λ (t : WeakTable). IsSome (get t.held c.args.slot.0)) (sym c.self.view_is) c.requires)

pub remove-requires-clause-listed : goal.remove-requires-clause-listed
remove-requires-clause-listed c =
    keyed_index c.self.invariant c.args.slot.0 (sym c.has_key-keyed.ensures ∙ c.if-keyed.true)

pub remove-requires-clause-last : goal.remove-requires-clause-last
remove-requires-clause-last c =
    last_low c.self.invariant c.args.slot.0 (sym c.has_key-keyed.ensures ∙ c.if-keyed.true)

pub invariant_of-self : goal.invariant_of-self
invariant_of-self c =
    relisted (clear_listed c.self.invariant c.args.slot.0 (sym c.has_key-keyed.ensures ∙ c.if-keyed.true)
    c.remove.ensures.lists) c.clear.ensures refl refl c.remove.ensures.capacity

pub invariant_of-self-else-keyed : goal.invariant_of-self-else-keyed
invariant_of-self-else-keyed c =
    relisted (clear_idle c.self.invariant c.args.slot.0
    (subst (λ (t : WeakTable). IsSome (get t.held c.args.slot.0)) (sym c.self.view_is) c.requires)
    (sym c.has_key-keyed.ensures ∙ c.if-keyed.false)) c.clear.ensures refl refl refl
