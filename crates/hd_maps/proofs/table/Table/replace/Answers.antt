use Rattle.std.proofs.Common.{ap, is_some, subst, sym, ◌∙◌}
use Rattle.std.proofs.lemmas.Bool.{false≢true}
use Rattle.hd_maps.specs.Inside.{IsTable}
use Rattle.hd_maps.proofs.TableCalls.{handle_put, handle_there, seen_put}
use Rattle.hd_maps.proofs.table.Table.replace.Goals as goal

pub invariant_of-self : goal.invariant_of-self
invariant_of-self c =
    absurd (false≢true (ap is_some c.in_default.ensures.value
    ∙ handle_there c.self.invariant c.self.view_is c.args.slot c.requires))

pub returns-in_default : goal.returns-in_default
returns-in_default c =
    absurd (false≢true (ap is_some c.in_default.ensures.value
    ∙ handle_there c.self.invariant c.self.view_is c.args.slot c.requires))

pub invariant_of-self-2 : goal.invariant_of-self-2
invariant_of-self-2 c =
    let known = handle_there c.self.invariant c.self.view_is c.args.slot c.requires in
    subst (λ m. IsTable c.self.inside.blocks m c.self.inside.uses) (sym (c.get_mut.follows.holds _ known))
    (handle_put c.self.invariant c.args.slot c.args.handle (c.self.invariant.slots c.args.slot known))

pub returns : goal.returns
returns c =
    seen_put c.self.invariant c.self.view_is _ c.args.slot c.args.handle
    (c.get_mut.follows.holds _ (handle_there c.self.invariant c.self.view_is c.args.slot c.requires))
