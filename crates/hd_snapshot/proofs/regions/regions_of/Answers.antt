use Rattle.std.proofs.Common.{ap, arith, is_some, map, subst, sym, ◌++◌, ◌<◌, ◌∙◌, ◌≡◌}
use Rattle.std.specs.FinMap.{get}
use Rattle.std.specs.Option.{option_to_list}
use Rattle.hd_seg.specs.Mapped.{entries_of}
use Rattle.hd_seen.specs.Seen.{region_seen}
use Rattle.hd_snapshot.proofs.Ranges.{all_read, none_read, read-more}
use Rattle.hd_snapshot.proofs.regions.regions_of.Goals as goal

pub loop-number-init : goal.loop-number-init
loop-number-init c =
    c.new-seen.ensures.items ∙ none_read (get c.args.heap.now.regions) (region_seen c.args.heap.now) 0

pub loop-number-preserved : goal.loop-number-preserved
loop-number-preserved c =
    c.in_ok-add.ensures
    ∙ (λ i. c.loop-number.invariant i ++ option_to_list (c.region_at-region.ensures i))
    ∙ sym (read-more (get c.args.heap.now.regions) (region_seen c.args.heap.now) 0 c.loop-number.number
    c.loop-number.number (omega arith))

pub returns : goal.returns
returns c =
    let end : c.loop-number.number ≡ c.extent-number-end.result.end = omega arith in
    c.loop-number.invariant
    ∙ ap (map (region_seen c.args.heap.now))
    (ap (λ n. entries_of 0 n (get c.args.heap.now.regions)) end
    ∙ all_read c.args.heap.now.regions c.extent-number-end.result.end (λ q x is.
    let first = c.requires q (ap is_some is) in
    subst (λ r. r < c.extent-number-end.result.end) first.region
    (c.extent-number-end.ensures.extent.above first.at first.object)))
