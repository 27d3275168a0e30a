use Rattle.hd_final.proofs.Basics.{ap, arith, sym, ℕ, ◌∙◌, ◌≡◌}
use Rattle.hd_heap.proofs.NextObjects.{end_later, end_within}
use Rattle.hd_heap.specs.Walks.{WalkOf, end_in}
use Rattle.hd_final.proofs.JoinerFind.{first_here, joins_here, none_here, passes_here, region_found, room_here}
use Rattle.hd_final.proofs.joiners.find_in_region.Goals as goal

pub push_reserved-requires : goal.push_reserved-requires
push_reserved-requires g c =
    let known =
    room_here c.args.heap.now (g.M.Marker.basis c.args.marker.now).condemned
    (g.M.Marker.promoted c.args.marker.now) c.requires.sound c.requires.young c.loop-object.invariant.finding
    (first_here c.loop-object.invariant.heap c.loop-object.invariant.region c.in-Some.ensures.next) in
    omega (arith, known, c.loop-object.invariant.capacity, c.loop-object.joiners.ok.0, c.requires.room)

pub loop-object-preserved-then-is_out : goal.loop-object-preserved-then-is_out
loop-object-preserved-then-is_out g c =
    let h = c.args.heap.now in
    let n = (g.M.Marker.basis c.args.marker.now).condemned in
    let p = g.M.Marker.promoted c.args.marker.now in
    let l = c.loop-object.invariant in
    let o = c.in-Some.object in
    let is = first_here l.heap l.region c.in-Some.ensures.next in
    let end : c.next.new.self.end ≡ end_in c.args.region o =
    ap (λ (w : WalkOf). w.end) c.in-Some.ensures.after ∙ ap (λ (r : ℕ). end_in r o) l.region in
    record {
      heap = ap (λ (w : WalkOf). w.heap) c.in-Some.ensures.after ∙ l.heap;
      region = ap (λ (w : WalkOf). w.region) c.in-Some.ensures.after ∙ l.region;
      finding = joins_here h n p c.requires.sound c.requires.young l.finding is end c.id-id.result
          c.id-id.ensures.identity (sym c.if-is_out.ensures) _ c.push_reserved.ensures.items;
      within = (let low = end_within h n c.requires.sound c.requires.young is in omega (arith, end, low));
      capacity = c.push_reserved.ensures.capacity ∙ l.capacity;
    }

pub loop-object-preserved : goal.loop-object-preserved
loop-object-preserved g c =
    let h = c.args.heap.now in
    let n = (g.M.Marker.basis c.args.marker.now).condemned in
    let p = g.M.Marker.promoted c.args.marker.now in
    let l = c.loop-object.invariant in
    let o = c.in-Some.object in
    let is = first_here l.heap l.region c.in-Some.ensures.next in
    let end : c.next.new.self.end ≡ end_in c.args.region o =
    ap (λ (w : WalkOf). w.end) c.in-Some.ensures.after ∙ ap (λ (r : ℕ). end_in r o) l.region in
    record {
      heap = ap (λ (w : WalkOf). w.heap) c.in-Some.ensures.after ∙ l.heap;
      region = ap (λ (w : WalkOf). w.region) c.in-Some.ensures.after ∙ l.region;
      finding = passes_here h n p c.requires.sound c.requires.young l.finding is end
          (sym c.if-is_out.ensures);
      within = (let low = end_within h n c.requires.sound c.requires.young is in omega (arith, end, low));
      capacity = l.capacity;
    }

pub loop-object-smaller : goal.loop-object-smaller
loop-object-smaller g c =
    let l = c.loop-object.invariant in
    let is = first_here l.heap l.region c.in-Some.ensures.next in
    let end : c.next.new.self.end ≡ end_in c.args.region c.in-Some.object =
    ap (λ (w : WalkOf). w.end) c.in-Some.ensures.after
    ∙ ap (λ (r : ℕ). end_in r c.in-Some.object) l.region in
    let n = (g.M.Marker.basis c.args.marker.now).condemned in
    let later = end_later c.args.heap.now n c.requires.sound c.requires.young is in
    let within = end_within c.args.heap.now n c.requires.sound c.requires.young is in
    omega (arith, end, later.0, within)

pub returns-clause-finding : goal.returns-clause-finding
returns-clause-finding g c =
    region_found c.args.heap.now (g.M.Marker.basis c.args.marker.now).condemned
    (g.M.Marker.promoted c.args.marker.now) c.requires.sound c.requires.young c.loop-object.invariant.finding
    c.loop-object.invariant.within
    (none_here c.loop-object.objects.end c.loop-object.invariant.heap c.loop-object.invariant.region
    c.in_default.ensures.next)
