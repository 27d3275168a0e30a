use Rattle.std.proofs.Common.{arith, inl, inr, refl, ◌/◌}
use Rattle.hdt_c.proofs.SharedOpenings.{no_multiple}
use Rattle.hdt_c.proofs.on_ends.open_ends.Goals as goal

pub returns-then-limits-count-ne0 : goal.returns-then-limits-count-ne0
returns-then-limits-count-ne0 c =
    inl ((λ each are. no_multiple c.args.count c.if-limits-count-ne0.true each are), refl)

pub returns-in-Err : goal.returns-in-Err
returns-in-Err c = inr (
  (
    c.args.limits.now.contexts / c.args.count,
    (
      omega (arith, c.if-count-lt1.false),
      omega (arith, c.if-count-gt-ENDS.false),
      omega (arith, c.if-limits-count-ne0.false, c.if-count-lt1.false),
      c.in_ok-host.ensures.limits,
    ),
  ),
  refl,
)

pub returns-in-Ok : goal.returns-in-Ok
returns-in-Ok c = (
  c.args.limits.now.contexts / c.args.count,
  c.in-Ok.ensures.0,
  c.in_ok-host.host,
  (
    omega (arith, c.if-count-lt1.false),
    omega (arith, c.if-count-gt-ENDS.false),
    omega (arith, c.if-limits-count-ne0.false, c.if-count-lt1.false),
    c.in_ok-host.ensures.limits,
  ),
  c.in_ok-host.ensures.made,
  c.in-Ok.ensures.1,
)
