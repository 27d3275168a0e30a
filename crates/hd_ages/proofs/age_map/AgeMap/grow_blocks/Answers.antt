use Rattle.hd_ages.proofs.Basics.{CLUMPS, ap, arith, length, raised, sym, ◌*◌}
use Rattle.hd_ages.proofs.MappedPrefixes.{grown_past, grown_rest, length-mapped_to, mapped_none}
use Rattle.hd_ages.proofs.age_map.AgeMap.grow_blocks.Goals as goal

pub loop-block-init : goal.loop-block-init
loop-block-init c = record {
  few = omega arith;
  within = omega arith;
  done = sym (mapped_none (raised c.args.n) c.args.self.now);
}

pub loop-block-smaller : goal.loop-block-smaller
loop-block-smaller c =
    let known = length-mapped_to (raised c.args.n) c.args.self.now (CLUMPS * c.loop-block.after) in
    omega (arith, known, ap length c.loop-block.invariant.done, c.in-Some.ensures.low, c.in-Some.ensures.high)

pub loop-block-preserved : goal.loop-block-preserved
loop-block-preserved c =
    let new = grown_past c.args.n c.min-young.result c.loop-block.after c.args.self.now
    (omega (arith, c.min-young.ensures)) c.loop-block.invariant.done c.in-Some.ensures.ages
    c.in-Some.block c.in-Some.ensures.low c.in-Some.ensures.high c.in-Some.ensures.above c.grow.ensures in
    let old = length-mapped_to (raised c.args.n) c.args.self.now (CLUMPS * c.loop-block.after) in
    let known = length-mapped_to (raised c.args.n) c.args.self.now (CLUMPS * c.in-Some.block) in
    record {
      few = c.in-Some.ensures.few;
      within = omega (
        arith,
        known,
        old,
        ap length new,
        ap length c.loop-block.invariant.done,
        c.in-Some.ensures.high,
      );
      done = new;
    }

pub returns : goal.returns
returns c =
    grown_rest c.args.n c.min-young.result c.loop-block.after c.args.self.now
    (omega (arith, c.min-young.ensures)) c.loop-block.invariant.done c.in_default.ensures.ages
    c.loop-block.invariant.within c.in_default.ensures.none
