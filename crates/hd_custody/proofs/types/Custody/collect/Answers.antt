use Rattle.hd_custody.proofs.Basics.{Kinded, Named, ap, arith, every_row, look_whole, missed, refl, rows, subst, sym, ◌++◌, ◌+◌, ◌∙◌, ◌≡◌, ◌≢◌}
use Rattle.hd_custody.proofs.HeldOnBlock.{with_block_some}
use Rattle.hd_custody.proofs.CallPhases.{less_is, less_not, found_or_some, seen_as, from_phase, held_is, table_is, then_as}
use Rattle.hd_custody.proofs.types.Custody.collect.Goals as goal

pub take_whole-requires : goal.take_whole-requires
take_whole-requires g c = record {
  seat = table_is c.loop-block.invariant ∙ c.requires.seat;
  block = (omega arith, omega (arith, c.self.invariant, c.loop-block-test.true));
  kinded = subst Kinded (sym (held_is c.loop-block.invariant)) c.requires.kinded;
}

pub loop-block-preserved : goal.loop-block-preserved
loop-block-preserved g c =
    let blocks = c.args.self.now.blocks in
    let size : c.self.inside.blocks ≡ blocks = ap (λ (n : Named). n.blocks) c.self.view_is in
    then_as (λ h. h) c.loop-block.invariant (from_phase (c.take_whole.ensures.part c.if-take_whole.false)
    (less_not blocks c.loop-block.block missed (look_whole c.loop-block.block)
    (omega (arith, size, c.loop-block-test.true))))

pub returns-then-take_whole-clause-made : goal.returns-then-take_whole-clause-made
returns-then-take_whole-clause-made g c =
    let blocks = c.args.self.now.blocks in
    let block = c.loop-block.block in
    let size : c.self.inside.blocks ≡ blocks = ap (λ (n : Named). n.blocks) c.self.view_is in
    let real : block ≢ 0 = λ e. omega arith in
    seen_as (then_as (λ h. rows block every_row (c.args.kind + 1) ++ h) c.loop-block.invariant
    (from_phase (c.take_whole.ensures.whole c.if-take_whole.true)
    (less_not blocks block missed (look_whole block) (omega (arith, size, c.loop-block-test.true)))))
    (sym (with_block_some block (c.args.kind + 1) c.args.caller.now.view.held real))
    (sym (found_or_some missed block real))

pub returns-clause-made : goal.returns-clause-made
returns-clause-made g c =
    let blocks = c.args.self.now.blocks in
    let size : c.self.inside.blocks ≡ blocks = ap (λ (n : Named). n.blocks) c.self.view_is in
    seen_as c.loop-block.invariant refl (less_is blocks c.loop-block.block missed
    (look_whole c.loop-block.block) (omega (arith, size, c.loop-block-test.false)))
