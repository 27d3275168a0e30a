use Rattle.hd_cells.proofs.Basics.{IsReached, arith, cell, subst, sym, ℕ, ◌+◌, ◌<◌, ◌≢◌}
use Rattle.hd_cells.proofs.CellWalk.{IsPassed, passed, none_reached, object_reached}
use Rattle.hd_cells.proofs.cells.first_from.Goals.{else-at-from-via-then-at-from+else-cells-at-ne0, else-at-from-via-else-at-from}
use Rattle.hd_cells.proofs.cells.first_from.Goals as goal

-- what is passed is a gap, or begins before `from`
early : (c : goal.Joined-else-at-from) → cell c.args.cells.now c.loop-at.at ≢ 0 → c.loop-at.at < c.args.from
early c named = elim c.else-at-from.branch [
  | else-at-from-via-then-at-from+else-cells-at-ne0 w ↦ absurd (named w.if-cells-at-ne0.false)
  | else-at-from-via-else-at-from w ↦ omega (arith, w.if-at-from.false)
]

step : (c : goal.Joined-else-at-from) → IsPassed c.args.cells.now c.args.fill c.args.from c.loop-at.at
step c = passed c.args.cells.now c.args.fill c.args.from c.loop-at.at c.loop-at.invariant
    (omega (arith, c.loop-at-test.true)) (early c)

early_after : (c : goal.After-extent-at) → cell c.args.cells.now c.loop-at.at ≢ 0 → c.loop-at.at < c.args.from
early_after c named = elim c.else-at-from.branch [
  | else-at-from-via-then-at-from+else-cells-at-ne0 w ↦ absurd (named w.if-cells-at-ne0.false)
  | else-at-from-via-else-at-from w ↦ omega (arith, w.if-at-from.false)
]

step_after : (c : goal.After-extent-at) → IsPassed c.args.cells.now c.args.fill c.args.from c.loop-at.at
step_after c = passed c.args.cells.now c.args.fill c.args.from c.loop-at.at c.loop-at.invariant
    (omega (arith, c.loop-at-test.true)) (early_after c)

pub extent-at-requires : goal.extent-at-requires
extent-at-requires c = let s = step c in omega (arith, s.long, s.within, c.requires.within)

pub overflow_add-at : goal.overflow_add-at
overflow_add-at c = let s = step_after c in omega (arith, s.within, c.extent-at.ensures, c.ranges.fill.fits)

pub loop-at-preserved : goal.loop-at-preserved
loop-at-preserved c =
    let P : ℕ → Type 0 = λ n. IsReached c.args.cells.now c.args.fill c.args.from (c.loop-at.at + n) in
    subst P (sym c.extent-at.ensures) (step_after c).reached

pub loop-at-smaller : goal.loop-at-smaller
loop-at-smaller c = let s = step_after c in
    omega (arith, s.long, s.within, c.extent-at.ensures, c.loop-at-test.true)

pub returns-then-cells-at-ne0 : goal.returns-then-cells-at-ne0
returns-then-cells-at-ne0 c =
    object_reached c.args.cells.now c.args.fill c.args.from c.loop-at.at c.loop-at.invariant
    (omega (arith, c.loop-at-test.true)) (omega (arith, c.if-at-from.true)) c.if-cells-at-ne0.true

pub returns : goal.returns
returns c = none_reached c.args.cells.now c.args.fill c.args.from c.loop-at.at c.loop-at.invariant
    (omega (arith, c.loop-at-test.false))
