use Rattle.hd_custody.proofs.Basics.{Acting, Divided, None, Some, ap, false, length, none-some, same_Some, subst, sym, ◌+◌, ◌∙◌, ◌≡◌}
use mathlib.Core.Option.{some-injective}
use Rattle.hd_custody.proofs.TableOpen.{ends}
use Rattle.hd_custody.proofs.gate.stored_world.Goals.{In-None, In-Some}
use Rattle.hd_custody.proofs.gate.stored_world.Goals as goal

pub close_with-closed-requires : goal.close_with-closed-requires
close_with-closed-requires g c = ap (λ (a : Acting g.row.W.Denot). a.table) c.caller.view_is ∙ c.requires.seat

pub unreachable-requires : goal.unreachable-requires
unreachable-requires g c =
    let inner = c.caller.inside.inner in
    let first = subst (λ (a : Acting g.row.W.Denot). (a.view.number ≡ 0) × (a.view.has_gate ≡ false)
    × (length a.view.ended + 1 ≡ a.view.made)) (sym c.caller.view_is)
    (c.requires.first.0, c.requires.first.1, c.requires.all) in
    let stored_world = ends g.W.Held _ inner.id inner.me.0 c.caller.invariant first.0 first.1 first.2 _ _
    c.close_with-closed.ensures.values.2 in
    none-some stored_world.0 (sym (some-injective (Some stored_world.0) c.take-world.result
    (sym stored_world.1 ∙ c.take-world.ensures.value) ∙ c.in-None.is))

pub returns : goal.returns
returns g c =
    let inner = c.caller.inside.inner in
    let first = subst (λ (a : Acting g.row.W.Denot). (a.view.number ≡ 0) × (a.view.has_gate ≡ false)
    × (length a.view.ended + 1 ≡ a.view.made)) (sym c.caller.view_is)
    (c.requires.first.0, c.requires.first.1, c.requires.all) in
    let stored_world = ends g.W.Held _ inner.id inner.me.0 c.caller.invariant first.0 first.1 first.2 _ _
    c.close_with-closed.ensures.values.2 in
    let is = same_Some stored_world.0 c.in-Some.world
    (some-injective (Some stored_world.0) c.take-world.result (sym stored_world.1
    ∙ c.take-world.ensures.value) ∙ c.in-Some.is) in
    subst (λ (a : Acting g.row.W.Denot). Divided g.W.Held a.view c.in-Some.world) c.caller.view_is
    (subst (Divided g.W.Held inner.me.0) is stored_world.2)
