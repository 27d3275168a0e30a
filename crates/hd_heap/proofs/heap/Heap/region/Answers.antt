use Rattle.hd_heap.proofs.Basics.{Contents, ap, arith, sym, ◌≡◌, ◌+◌, ◌∙◌}
use Rattle.std.proofs.Common.{Some}
use Rattle.hd_heap.proofs.RegionReads.{opened, index_read, none_at_zero, none_past, none_free, some_held}
use Rattle.hd_heap.proofs.heap.Heap.region.Goals as goal

pub returns-then-region-eq0 : goal.returns-then-region-eq0
returns-then-region-eq0 c =
    let heap = opened c.self.inside c.self.view_is c.self.invariant in
    sym (none_at_zero heap c.args.region (omega (arith, c.if-region-eq0.true)))

pub returns-then-index-regions : goal.returns-then-index-regions
returns-then-index-regions c =
    let heap = opened c.self.inside c.self.view_is c.self.invariant in
    let n : c.args.region ≡ c.index_of-index.result + 1
    = omega (arith, c.if-region-eq0.false, c.index_of-index.ensures) in
    sym (none_past heap c.args.region _ n (omega (arith, c.if-index-regions.true, c.len-regions.ensures)))

pub returns-then-not-area : goal.returns-then-not-area
returns-then-not-area c =
    let heap = opened c.self.inside c.self.view_is c.self.invariant in
    let p = index_read _ c.args.region _ _ (omega (arith, c.if-region-eq0.false, c.index_of-index.ensures))
    (omega (arith, c.if-index-regions.false, c.len-regions.ensures)) c.index-area.ensures in
    sym (none_free heap p c.if-not-area.true)

pub returns : goal.returns
returns c =
    let heap = opened c.self.inside c.self.view_is c.self.invariant in
    let p = index_read _ c.args.region _ _ (omega (arith, c.if-region-eq0.false, c.index_of-index.ensures))
    (omega (arith, c.if-index-regions.false, c.len-regions.ensures)) c.index-area.ensures in
    let fill = c.fill.ensures.value ∙ ap (λ (x : Contents). x.fill) c.deref.ensures in
    sym (some_held heap p c.if-not-area.false
    ∙ ap (λ n. Some (record { generation = c.index-area.result.now.generation; fill = n })) (sym fill))
