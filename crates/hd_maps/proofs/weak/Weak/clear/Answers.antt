use Rattle.std.proofs.Common.{None, ap, is_some, subst, sym, ◌∙◌}
use Rattle.std.proofs.lemmas.Bool.{false≢true}
use Rattle.std.specs.FinMap.{insert, remove}
use Rattle.hd_maps.specs.Inside.{IsWeak}
use Rattle.hd_maps.proofs.WeakCalls.{clear_weak, slot_there, written}
use Rattle.hd_maps.proofs.weak.Weak.clear.Goals as goal

pub invariant_of-self-in_default : goal.invariant_of-self-in_default
invariant_of-self-in_default c =
    absurd (false≢true (ap is_some c.in_default.ensures.value
    ∙ slot_there c.self.invariant c.self.view_is c.args.slot c.args.key c.requires))

pub returns-in_default : goal.returns-in_default
returns-in_default c =
    absurd (false≢true (ap is_some c.in_default.ensures.value
    ∙ slot_there c.self.invariant c.self.view_is c.args.slot c.args.key c.requires))

pub invariant_of-self-2 : goal.invariant_of-self-2
invariant_of-self-2 c =
    let known = slot_there c.self.invariant c.self.view_is c.args.slot c.args.key c.requires in
    subst (λ m. IsWeak m c.remove.new.self c.insert.new.self) (sym (c.get_mut.follows.holds _ known))
    (subst (λ m. IsWeak (insert c.self.inside.slots c.args.slot None) m c.insert.new.self)
    (sym c.remove.ensures.0)
    (subst
    (λ m. IsWeak (insert c.self.inside.slots c.args.slot None) (remove c.self.inside.by_key c.args.key.0) m)
    (sym c.in_ok-insert.ensures)
    (clear_weak c.self.invariant c.self.view_is c.args.slot c.args.key c.requires)))

pub returns : goal.returns
returns c =
    let known = slot_there c.self.invariant c.self.view_is c.args.slot c.args.key c.requires in
    written c.self.invariant c.self.view_is c.args.slot None (c.get_mut.follows.holds _ known)
