use Rattle.hd_custody.proofs.Basics.{ap, back_part, eqb-false, eqb-true, every_row, refl, rows, sym, ◌++◌, ◌+◌, ◌∙◌, ◌≡◌}
use Rattle.hd_custody.proofs.CallPhases.{due, same_is, same_not, made_none, seen_as, from_phase}
use Rattle.hd_custody.proofs.AllocateSteps.{second_look}
use Rattle.hd_custody.proofs.types.Custody.stays_whole.Goals as goal

pub returns-then-mask-ne-ALL_ROWS-clause-part : goal.returns-then-mask-ne-ALL_ROWS-clause-part
returns-then-mask-ne-ALL_ROWS-clause-part g c h is kinded _ = (
  0,
  from_phase (seen_as (made_none (back_part c.args.block c.args.mask) c.args.caller.now) is refl)
      (same_not c.args.mask every_row _ _ c.if-mask-ne-ALL_ROWS.true),
)

pub returns-clause-whole : goal.returns-clause-whole
returns-clause-whole g c h is kinded yes_whole =
    let all = c.if-mask-ne-ALL_ROWS.false in
    let same = eqb-true c.look.result (c.args.kind + 1) yes_whole in
    from_phase (seen_as (second_look c.args.block h kinded c.args.caller.now c.look.new.caller c.args.mask
    c.look.result is (due c.args.block c.look.result c.look.result _) c.look.ensures.view)
    (ap (λ m. rows c.args.block m c.look.result ++ h) all ∙ ap (λ q. rows c.args.block every_row q ++ h) same)
    (same_is c.look.result (c.args.kind + 1) _ _ same)) (same_is c.args.mask every_row _ _ all)

pub returns-clause-part : goal.returns-clause-part
returns-clause-part g c h is kinded not_whole = (
  c.look.result,
  from_phase (seen_as (second_look c.args.block h kinded c.args.caller.now c.look.new.caller c.args.mask
      c.look.result is (due c.args.block c.look.result c.look.result _) c.look.ensures.view) refl
      (same_not c.look.result (c.args.kind + 1) _ _ (eqb-false c.look.result (c.args.kind + 1) not_whole)
      ∙ ap (back_part c.args.block) (sym c.if-mask-ne-ALL_ROWS.false)))
      (same_is c.args.mask every_row _ _ c.if-mask-ne-ALL_ROWS.false),
)
