use Rattle.hd_plan.proofs.Basics.{arith, refl, region_of}
use Rattle.hd_plan.proofs.RegionList.{laid_done, laid_past, laid_start, region_condemned}
use Rattle.hd_plan.proofs.lay.lay_regions.Goals as goal

pub returns-then-condemned-eq0-clause-laid : goal.returns-then-condemned-eq0-clause-laid
returns-then-condemned-eq0-clause-laid g c =
    rw (c.requires.none, c.requires.unlisted) (laid_done c.regions-regions.ensures.sound
    (laid_start c.regions-regions.ensures.sound c.args.forwards.now.firsts.items
    c.args.forwards.now.cells.items c.requires.forwards) (omega arith)
    (λ a of. absurd (let found = c.requires.condemned.all (region_of a) (a, (of, refl)) in
    omega (arith, found.1, c.requires.condemned.number, c.if-condemned-eq0.true))))

pub loop-region-init : goal.loop-region-init
loop-region-init g c = record {
  laid = rw (c.requires.none, c.requires.unlisted, c.new-cursors.ensures) (laid_start
      c.regions-regions.ensures.sound c.args.forwards.now.firsts.items c.args.forwards.now.cells.items
      c.requires.forwards);
  within = omega arith;
  room = c.requires.room;
}

pub lay_region-requires-clause-so_far : goal.lay_region-requires-clause-so_far
lay_region-requires-clause-so_far g c =
    let next = c.in-Some.ensures.walk in
    rw c.requires.marker (laid_past c.regions-regions.ensures.sound c.in-Some.region c.loop-region.invariant.laid
    (omega (arith, next.beyond)) (λ a of from. next.least a of (omega (arith, from))))

pub loop-region-preserved : goal.loop-region-preserved
loop-region-preserved g c =
    let next = c.in-Some.ensures.walk in
    record {
      laid = rw c.requires.marker at c.lay_region.ensures.laid;
      within = (c.regions-regions.ensures.sound.numbers c.in-Some.region
          (region_condemned c.regions-regions.ensures.sound {n = c.args.n}
          (next.at, (next.member, next.region))).held).1;
      room = rw c.requires.marker at c.lay_region.ensures.room;
    }

pub returns-clause-laid : goal.returns-clause-laid
returns-clause-laid g c =
    laid_done c.regions-regions.ensures.sound c.loop-region.invariant.laid
    (omega (arith, c.loop-region.invariant.within))
    (λ a of. omega (arith, c.in_default.ensures.walk a of))
