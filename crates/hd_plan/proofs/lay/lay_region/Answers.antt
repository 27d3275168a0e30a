use Rattle.hd_plan.proofs.Basics.{ap, arith, length, length-set, min, sym, young_raised, ◌+◌, ◌<◌, ◌∙◌, ◌≡◌}
use Rattle.hd_heap.proofs.NextObjects.{condemned_has}
use Rattle.hd_plan.proofs.RegionList.{laid_region, region_condemned, regions_few}
use Rattle.hd_plan.proofs.lay.lay_region.Given.{Over}
use Rattle.hd_plan.proofs.lay.lay_region.Goals.{After-len-k}
use Rattle.hd_plan.proofs.lay.lay_region.Goals as goal

-- there is room for one region more
few : (g : Over) (c : After-len-k g) → length c.args.regions.now.items < c.requires.room.regions.count
few g c = regions_few c.requires.sound c.args.region c.requires.so_far.regions c.requires.condemned
    c.requires.room.regions.count_is

k_is : (g : Over) (c : After-len-k g) → c.len-k.result ≡ length c.args.regions.now.items
k_is g c = c.len-k.ensures ∙ c.args.regions.now.ok.0

pub overflow_cast-k : goal.overflow_cast-k
overflow_cast-k g c =
    let d = (goal.at.overflow_cast-k g c).After-len-k in
    omega (arith, few g d, k_is g d, c.requires.room.regions.small)

pub list-requires-clause-number : goal.list-requires-clause-number
list-requires-clause-number g c =
    let d = (goal.at.list-requires-clause-number g c).After-len-k in
    omega (arith, few g d, k_is g d, c.requires.room.regions.small)

pub lay_objects-pinned-requires-clause-table : goal.lay_objects-pinned-requires-clause-table
lay_objects-pinned-requires-clause-table g c =
    let d = (goal.at.lay_objects-pinned-requires-clause-table g c).After-len-k in
    omega (arith, few g d, k_is g d, c.requires.room.regions.table, ap length c.list.ensures.cells)

pub push_reserved-requires : goal.push_reserved-requires
push_reserved-requires g c =
    let d = (goal.at.push_reserved-requires g c).After-len-k in
    omega (arith, few g d, c.requires.room.regions.enough, c.args.regions.now.ok.0)

pub returns-clause-laid : goal.returns-clause-laid
returns-clause-laid g c =
    let d = (goal.at.returns-clause-laid g c).After-len-k in
    let k = k_is g d in
    let (at, (is, region)) = c.requires.condemned in
    rw (c.push_reserved.ensures.items, c.lay_objects-pinned.ensures.firsts, c.list.ensures.firsts, k)
    (laid_region c.requires.sound (record {
      region = c.args.region;
      generation = c.min-generation.result;
      pinned = c.lay_objects-pinned.result;
    }) c.requires.so_far c.requires.condemned
    (rw (c.list.ensures.cells, k) at c.lay_objects-pinned.ensures.these) c.lay_objects-pinned.ensures.laying
    (c.min-generation.ensures ∙ ap (λ x. min (x + 1) 2) c.region_generation.ensures
    ∙ sym (young_raised _ _ (region_condemned c.requires.sound c.requires.condemned).young))
    (omega (arith, c.requires.room.span at (condemned_has c.args.heap.now _ at is), region))
    (omega (arith, few g d, c.requires.room.regions.table)))

pub returns-clause-room : goal.returns-clause-room
returns-clause-room g c =
    let firsts = ap length (c.lay_objects-pinned.ensures.firsts ∙ c.list.ensures.firsts)
    ∙ length-set _ c.args.region _ in
    let cells = c.lay_objects-pinned.ensures.these.long ∙ ap length c.list.ensures.cells in
    rw (c.lay_objects-pinned.ensures.capacity, c.push_reserved.ensures.capacity, firsts, cells)
    c.requires.room
