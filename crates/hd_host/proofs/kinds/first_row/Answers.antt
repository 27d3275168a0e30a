use Rattle.std.proofs.Common.{ap, arith, cond, is_some, subst, sym, ◌*◌, ◌+◌, ◌<◌, ◌^◌, ◌∙◌, ◌≤◌}
use Rattle.std.specs.FinMap.{contains_key}
use Rattle.hd_model.specs.{declared.limits.TheConstants.ROWS, Table.Table}
use Rattle.hd_host.proofs.HandleKinds.{fewer-left, first-row, left-first, left-next, none-left, some-left}
use Rattle.hd_host.proofs.kinds.first_row.Goals as goal

pub live_rows-live-requires-clause-high : goal.live_rows-live-requires-clause-high
live_rows-live-requires-clause-high c = subst (λ (t : Table). c.args.block ≤ t.blocks) (sym c.table.ensures)
    c.requires.high

pub loop-step-init : goal.loop-step-init
loop-step-init c =
    let fits : c.live_rows-live.result < 2 ^ 64 = omega arith in
    left-first c.requires.over c.requires.sound c.args.cleared c.args.block c.args.first c.live_rows-live.result fits
    (λ i low. c.live_rows-live.ensures.bits i low
    ∙ ap (λ (t : Table). cond (contains_key t.rows (ROWS * c.args.block + i)) 1 0) c.table.ensures)

pub overflow_add-row : goal.overflow_add-row
overflow_add-row c = omega (arith, c.requires.first, c.in-Some.ensures.within)

pub is_wanted-requires-clause-live : goal.is_wanted-requires-clause-live
is_wanted-requires-clause-live c = (c.loop-step.invariant.only c.in-Some.step c.in-Some.ensures.set).1

pub returns-then-is_wanted : goal.returns-then-is_wanted
returns-then-is_wanted c =
    first-row c.loop-step.invariant c.in-Some.step c.in-Some.ensures.set c.in-Some.ensures.least
    (c.is_wanted.ensures.yes c.if-is_wanted.true)

pub overflow_sub-rows : goal.overflow_sub-rows
overflow_sub-rows c = some-left c.loop-step.invariant c.in-Some.step c.in-Some.ensures.set c.in-Some.ensures.least

pub loop-step-preserved : goal.loop-step-preserved
loop-step-preserved c =
    left-next c.loop-step.invariant c.in-Some.step c.in-Some.ensures.set c.in-Some.ensures.least
    (c.is_wanted.ensures.no c.if-is_wanted.false)

pub loop-step-smaller : goal.loop-step-smaller
loop-step-smaller c =
    fewer-left c.loop-step.invariant c.in-Some.step c.in-Some.ensures.set c.in-Some.ensures.least

pub returns : goal.returns
returns c = none-left c.loop-step.invariant (c.lowest.ensures.none.0 (ap is_some c.in_default.is))
