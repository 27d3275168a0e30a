use Rattle.std.proofs.Common.{refl, sym, true≢false, ◌∙◌}
use Rattle.hd_view.specs.declared.sets.Range.{Range}
use Rattle.hd_view.proofs.RangeSets.{in_at, none_next}
use Rattle.hd_view.proofs.sets.is_in.Goals as goal

abbrev none : Range
none = record { first = 0; last = 0 }

pub returns-then-has : goal.returns-then-has
returns-then-has c = (
  λ _. in_at c.args.ranges.now c.loop-range.range-index none c.args.number c.loop-range-test.true
      (c.has.ensures.0 c.if-has.true),
  λ _. refl,
)

pub loop-range-preserved : goal.loop-range-preserved
loop-range-preserved c =
    none_next c.args.ranges.now c.loop-range.range-index none c.args.number c.loop-range-test.true
    c.loop-range.invariant (λ here. true≢false (sym (c.has.ensures.1 here) ∙ c.if-has.false))
