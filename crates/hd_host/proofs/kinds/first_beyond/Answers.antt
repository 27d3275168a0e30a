use Rattle.std.proofs.Common.{arith, refl, ◌*◌, ◌+◌}
use Rattle.hd_model.specs.declared.limits.TheConstants.{ROWS}
use Rattle.hd_host.proofs.HandleKinds.{next-after, none-between, none-beyond, none-joined}
use Rattle.hd_host.proofs.kinds.first_beyond.Goals as goal

pub loop-first-init : goal.loop-first-init
loop-first-init c = record {
  few = c.requires.few;
  on = omega arith;
  none = λ slot low high is. absurd (omega (arith, low, high));
}

pub returns-in-Ok : goal.returns-in-Ok
returns-in-Ok c =
    let given = c.in-Some.ensures.next in
    next-after c.requires.sound c.args.kinds c.args.cleared (ROWS * (c.args.before + 1)) (ROWS * c.in-Some.first)
    (ROWS * c.in-Some.first) refl
    (none-between c.requires.sound c.args.kinds c.args.cleared (ROWS * (c.args.before + 1)) (c.loop-first.last + 1)
    c.in-Some.first given c.loop-first.invariant.none) (omega (arith, given.low, c.loop-first.invariant.on)) c.in-Ok.slot
    c.in-Ok.ensures.next

pub loop-first-preserved : goal.loop-first-preserved
loop-first-preserved c =
    let given = c.in-Some.ensures.next in
    let on = c.in-Err.ensures.on in
    record {
      few = omega (arith, on.1, c.requires.sound.limits.blocks.1);
      on = omega (arith, on.0, given.low, c.loop-first.invariant.on);
      none = none-joined c.requires.sound c.args.kinds c.args.cleared (ROWS * (c.args.before + 1)) (ROWS * c.in-Some.first)
          (ROWS * c.in-Some.first) refl
          (none-between c.requires.sound c.args.kinds c.args.cleared (ROWS * (c.args.before + 1)) (c.loop-first.last + 1)
          c.in-Some.first given c.loop-first.invariant.none) (ROWS * (c.in-Err.seen + 1)) c.in-Err.ensures.next;
    }

pub loop-first-smaller : goal.loop-first-smaller
loop-first-smaller c =
    let on = c.in-Err.ensures.on in
    omega (arith, on.0, on.1, c.in-Some.ensures.next.low)

pub returns : goal.returns
returns c =
    none-beyond c.requires.sound c.args.kinds c.args.cleared (ROWS * (c.args.before + 1)) (c.loop-first.last + 1)
    c.in_default.ensures.next c.loop-first.invariant.none
