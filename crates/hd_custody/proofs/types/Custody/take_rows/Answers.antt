use Rattle.hd_custody.proofs.Basics.{Acting, BLOCKS, Fresh, Made, ROWS, ap, arith, bit_at, bit_at-zero, drain, drain_whole, look, look_whole, refl, subst, sym, ℕ, ◌*◌, ◌++◌, ◌+◌, ◌<◌, ◌∙◌, ◌≡◌, ◌≢◌}
use Rattle.hd_custody.proofs.{HeldOnBlock.rows_none, AllocateSteps.first_look, AllocateSteps.drain_step}
use Rattle.hd_custody.proofs.CallPhases.{due, same_is, same_not, seen_as, held_is, table_is, and_then}
use Rattle.hd_custody.proofs.types.Custody.take_rows.Goals as goal

pub returns-then-look-kind-clause-fresh : goal.returns-then-look-kind-clause-fresh
returns-then-look-kind-clause-fresh g c r lt set = absurd (let z = bit_at-zero r in omega arith)

pub returns-then-look-kind-clause-probed : goal.returns-then-look-kind-clause-probed
returns-then-look-kind-clause-probed g c =
    let held = c.args.caller.now.view.held in
    seen_as (first_look c.args.block held c.requires.kinded c.args.caller.now c.look.new.caller
    c.look.result refl
    (due c.args.block c.look.result c.look.result _
    ∙ same_not c.look.result (c.args.kind + 1) _ _ c.if-look-kind.true)
    c.look.ensures.view) (sym (ap (λ ps. ps ++ held) (rows_none c.args.block 0 0 refl))) refl

pub returns-then-look-kind-clause-gathered : goal.returns-then-look-kind-clause-gathered
returns-then-look-kind-clause-gathered g c =
    let held = c.args.caller.now.view.held in
    seen_as (first_look c.args.block held c.requires.kinded c.args.caller.now c.look.new.caller
    c.look.result refl
    (due c.args.block c.look.result c.look.result _
    ∙ same_not c.look.result (c.args.kind + 1) _ _ c.if-look-kind.true)
    c.look.ensures.view) (sym (ap (λ ps. ps ++ held) (rows_none c.args.block 0 0 refl))) refl

pub drain-requires : goal.drain-requires
drain-requires g c = record {
  seat = ap (λ (a : Acting g.row.W.Denot). a.table) c.look.ensures.view ∙ c.requires.seat;
  block = c.requires.block;
}

pub returns-clause-fresh : goal.returns-clause-fresh
returns-clause-fresh g c =
    let so : Made c.args.kind c.args.self.now.blocks (look c.args.block)
    (drain c.args.block) c.args.caller.now.view.held
    c.args.caller.now c.look.new.caller =
    first_look c.args.block c.args.caller.now.view.held c.requires.kinded c.args.caller.now c.look.new.caller
    c.look.result refl
    (due c.args.block c.look.result c.look.result _
    ∙ same_is c.look.result (c.args.kind + 1) _ _ c.if-look-kind.false)
    c.look.ensures.view in
    subst (λ (a : Acting g.row.W.Denot). (r : ℕ) → r < ROWS → bit_at c.drain.result r ≡ 1
    → Fresh g.W.Held a.view (ROWS * c.args.block + r)) so.only c.drain.ensures.fresh

pub returns-clause-probed : goal.returns-clause-probed
returns-clause-probed g c =
    let held = c.args.caller.now.view.held in
    let so : Made c.args.kind c.args.self.now.blocks (look c.args.block) (drain c.args.block) held
    c.args.caller.now c.look.new.caller =
    first_look c.args.block held c.requires.kinded c.args.caller.now c.look.new.caller c.look.result refl
    (due c.args.block c.look.result c.look.result _
    ∙ same_is c.look.result (c.args.kind + 1) _ _ c.if-look-kind.false)
    c.look.ensures.view in
    and_then so (drain_step c.args.block held c.requires.kinded c.look.new.caller c.drain.new.caller
    c.drain.result (held_is so) (due (BLOCKS + c.args.block) c.drain.result 0 _) c.drain.ensures.view)

pub returns-clause-gathered : goal.returns-clause-gathered
returns-clause-gathered g c =
    let held = c.args.caller.now.view.held in
    let so : Made c.args.kind c.args.self.now.blocks (look_whole c.args.block) (drain_whole c.args.block) held
    c.args.caller.now c.look.new.caller =
    first_look c.args.block held c.requires.kinded c.args.caller.now c.look.new.caller c.look.result refl
    (due c.args.block c.look.result c.look.result _
    ∙ same_is c.look.result (c.args.kind + 1) _ _ c.if-look-kind.false)
    c.look.ensures.view in
    and_then so (drain_step c.args.block held c.requires.kinded c.look.new.caller c.drain.new.caller
    c.drain.result (held_is so) (due (BLOCKS + c.args.block) c.drain.result 0 _) c.drain.ensures.view)
