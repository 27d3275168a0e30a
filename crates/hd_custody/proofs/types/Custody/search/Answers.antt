use Rattle.hd_custody.proofs.Basics.{Kinded, Named, ap, arith, look, missed, refl, subst, sym, to_look, with_slot, ◌+◌, ◌∙◌, ◌≡◌}
use Rattle.hd_custody.proofs.CallPhases.{less_is, less_not, made_none, seen_as, from_phase, held_is, table_is, then_as}
use Rattle.hd_custody.proofs.AllocateSteps.{came_none, came_some, offers_since}
use Rattle.hd_custody.proofs.types.Custody.search.Goals as goal

pub loop-block-init : goal.loop-block-init
loop-block-init g c = made_none (to_look c.args.self.now.blocks 1) c.args.caller.now

pub take_from-slot-requires : goal.take_from-slot-requires
take_from-slot-requires g c = record {
  seat = table_is c.loop-block.invariant ∙ c.requires.seat;
  kind = c.requires.kind;
  block = (omega arith, omega (arith, c.self.invariant, c.loop-block-test.true));
  kinded = subst Kinded (sym (held_is c.loop-block.invariant)) c.requires.kinded;
}

pub loop-block-preserved : goal.loop-block-preserved
loop-block-preserved g c =
    let blocks = c.args.self.now.blocks in
    let size : c.self.inside.blocks ≡ blocks = ap (λ (n : Named). n.blocks) c.self.view_is in
    then_as (λ h. h) c.loop-block.invariant
    (came_none (to_look blocks (c.loop-block.block + 1)) c.take_from-slot.result c.loop-block.caller.view.held
    c.if-slot-ne0.false (from_phase c.take_from-slot.ensures.made
    (less_not blocks c.loop-block.block missed (look c.loop-block.block)
    (omega (arith, size, c.loop-block-test.true)))))

pub returns-then-slot-ne0-clause-made : goal.returns-then-slot-ne0-clause-made
returns-then-slot-ne0-clause-made g c =
    let blocks = c.args.self.now.blocks in
    let size : c.self.inside.blocks ≡ blocks = ap (λ (n : Named). n.blocks) c.self.view_is in
    came_some (to_look blocks (c.loop-block.block + 1)) missed c.take_from-slot.result c.if-slot-ne0.true
    (then_as (with_slot c.take_from-slot.result (c.args.kind + 1)) c.loop-block.invariant
    (from_phase c.take_from-slot.ensures.made
    (less_not blocks c.loop-block.block missed (look c.loop-block.block)
    (omega (arith, size, c.loop-block-test.true)))))

pub returns-then-slot-ne0-clause-offers : goal.returns-then-slot-ne0-clause-offers
returns-then-slot-ne0-clause-offers g c =
    offers_since g.W.Held c.args.kind c.take_from-slot.result c.loop-block.invariant
    c.take_from-slot.ensures.offers

pub returns-clause-made : goal.returns-clause-made
returns-clause-made g c =
    let blocks = c.args.self.now.blocks in
    let size : c.self.inside.blocks ≡ blocks = ap (λ (n : Named). n.blocks) c.self.view_is in
    seen_as c.loop-block.invariant refl (less_is blocks c.loop-block.block missed (look c.loop-block.block)
    (omega (arith, size, c.loop-block-test.false)))
