use Rattle.hd_scan.proofs.Basics.{Global, Root, Vec, ap, arith, flat_map, range_with_len, ◌+◌, ◌-◌, ◌∙◌, ◌≡◌, ◌≤◌}
use Rattle.std.specs.declared.alloc.AllocError.{AllocError}
use Rattle.rayon.specs.Numbers.{nat_range}
use Rattle.rayon.proofs.{ListFacts.IfOk-then, ToStd.nat_range-All}
use Rattle.hd_scan.proofs.RootLists.{gathered}
use Rattle.hd_scan.proofs.gathering.gather_blocks.Goals as goal

-- each block is one of the table's
pub collect-requires-clause-ready : goal.collect-requires-clause-ready
collect-requires-clause-ready g c κs within =
    let ends = c.into_par_iter.ensures in
    let inside = nat_range-All (λ b. (1 ≤ b) × (b ≤ c.args.seg.now.blocks)) 1 (c.args.blocks + 1)
    (λ b low high. (low, omega (arith, c.requires, high))) in
    rw (c.map.ensures.base, c.map.ensures.f, c.with_min_len.ensures.base, ends.0, ends.1)
    (λ k d lt. (inside k d lt, λ y p. tt))

pub returns : goal.returns
returns g c =
    let ends = c.into_par_iter.ensures in
    let h = c.in_ok-collect.ensures in
    let chain = rw (c.map.ensures.base, c.map.ensures.f, c.with_min_len.ensures.base) at h.1 in
    let count : (c.args.blocks + 1) - 1 ≡ c.args.seg.now.blocks = omega (arith, c.requires) in
    let blocks = chain.1 ∙ (λ i. nat_range (ends.0 i) (ends.1 i)) ∙ ap (range_with_len 1) count in
    let all = gathered AllocError c.args.seg.now chain.0 h.0 c.in_ok-collect.field-0 c.in_ok-parts.parts
    c.given-given.ensures.table blocks chain.2 h.2 c.in_ok-parts.was in
    IfOk-then c.joined.result _ _ c.joined.ensures
    (λ v is. is ∙ ap (flat_map (λ (w : Vec Root Global). w.items)) c.deref.ensures.value ∙ all)
