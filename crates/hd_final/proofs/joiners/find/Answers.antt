use Rattle.hd_final.proofs.Basics.{Basis, IsFinding, REGION, arith, region_generation, subst, sym, ℕ, ◌*◌, ◌+◌, ◌∙◌, ◌≤◌}
use Rattle.hd_final.proofs.JoinerFind.{end_of, finding_past, finding_start, found_all, next_held, next_later, none_between, none_later}
use Rattle.hd_final.proofs.joiners.find.Goals as goal

pub find_in_region-requires-clause-held : goal.find_in_region-requires-clause-held
find_in_region-requires-clause-held g c =
    (next_held c.args.heap.now c.args.n c.in-Some.ensures.sound c.loop-region.after c.in-Some.region
    c.in-Some.ensures.walk).0

pub find_in_region-requires-clause-young : goal.find_in_region-requires-clause-young
find_in_region-requires-clause-young g c =
    subst (λ (b : Basis). region_generation c.args.heap.now c.in-Some.region ≤ b.condemned)
    (sym c.requires.basis)
    (next_held c.args.heap.now c.args.n c.in-Some.ensures.sound c.loop-region.after c.in-Some.region
    c.in-Some.ensures.walk).1

pub find_in_region-requires-clause-so_far : goal.find_in_region-requires-clause-so_far
find_in_region-requires-clause-so_far g c =
    let h = c.args.heap.now in
    let p = g.M.Marker.promoted c.args.marker.now in
    let next = c.in-Some.ensures.walk in
    subst (λ (b : Basis). IsFinding h b.condemned p (c.in-Some.region * REGION) c.loop-region.joiners.items)
    (sym c.requires.basis)
    (finding_past h c.args.n p c.loop-region.invariant.finding (c.in-Some.region * REGION)
    (next_later c.loop-region.after c.in-Some.region next.beyond)
    (none_between h c.args.n c.in-Some.ensures.sound c.loop-region.after c.in-Some.region next))

pub loop-region-init : goal.loop-region-init
loop-region-init g c = record {
  finding = subst (IsFinding c.args.heap.now c.args.n (g.M.Marker.promoted c.args.marker.now) 0)
      (sym c.clear.ensures.items)
      (finding_start c.args.heap.now c.args.n (g.M.Marker.promoted c.args.marker.now));
  capacity = c.clear.ensures.capacity;
}

pub loop-region-preserved : goal.loop-region-preserved
loop-region-preserved g c =
    let h = c.args.heap.now in
    let p = g.M.Marker.promoted c.args.marker.now in
    let known : IsFinding h c.args.n p ((c.in-Some.region + 1) * REGION) c.find_in_region.new.joiners.items =
    subst (λ (b : Basis). IsFinding h b.condemned p ((c.in-Some.region + 1) * REGION)
    c.find_in_region.new.joiners.items)
    c.requires.basis c.find_in_region.ensures.finding in
    let beyond = c.in-Some.ensures.walk.beyond in
    record {
      finding = subst (λ (k : ℕ). IsFinding h c.args.n p k c.find_in_region.new.joiners.items)
          (end_of c.in-Some.region (omega (arith, beyond))) known;
      capacity = c.find_in_region.ensures.capacity ∙ c.loop-region.invariant.capacity;
    }

pub loop-region-smaller : goal.loop-region-smaller
loop-region-smaller g c =
    let held =
    (next_held c.args.heap.now c.args.n c.in-Some.ensures.sound c.loop-region.after c.in-Some.region
    c.in-Some.ensures.walk).0 in
    let high = (c.in-Some.ensures.sound.numbers c.in-Some.region held).1 in
    let beyond = c.in-Some.ensures.walk.beyond in
    omega (arith, high, beyond)

pub returns-clause-found : goal.returns-clause-found
returns-clause-found g c =
    found_all c.args.heap.now c.args.n (g.M.Marker.promoted c.args.marker.now) c.loop-region.invariant.finding
    (none_later c.args.heap.now c.args.n c.in_default.ensures.sound c.loop-region.after
    c.in_default.ensures.walk)
