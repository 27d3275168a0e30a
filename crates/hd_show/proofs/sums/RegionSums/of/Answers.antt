use Rattle.std.proofs.Common.{List, ap, count_by, nat_eq, sum_by, ◌∙◌}
use Rattle.std.specs.HashSet.{contains}
use Rattle.hd_seen.specs.declared.SeenHandle.{SeenHandle}
use Rattle.hd_seen.specs.declared.SeenObject.{SeenObject}
use Rattle.hd_show.specs.Inside.{cells_seen_in, is_marked, seen_in}
use Rattle.hd_show.specs.Pins.{is_pinned_by}
use Rattle.hd_show.proofs.RegionSteps.{region_counts}
use Rattle.hd_show.proofs.sums.RegionSums.of.Goals as goal

pub returns : goal.returns
returns c =
    region_counts c.args.seen.now c.in_ok-objects.objects c.in_ok-cells.cells c.in_ok-pinned.pinned
    (contains nat_eq c.in_ok-marks.marks)
    (λ x. c.in_ok-marks.ensures x ∙ ap (λ (hs : List SeenHandle). is_pinned_by hs x) c.deref.ensures.value)
    (λ k. c.in_ok-objects.ensures k
    ∙ ap (λ (os : List SeenObject). count_by (seen_in k) os) c.deref-2.ensures.value)
    (λ k. c.in_ok-cells.ensures k
    ∙ ap (λ (os : List SeenObject). sum_by (cells_seen_in k) os) c.deref-3.ensures.value)
    (λ k. c.in_ok-pinned.ensures k
    ∙ ap (λ (os : List SeenObject). count_by (is_marked (contains nat_eq c.in_ok-marks.marks) k) os)
    c.deref-4.ensures.value)
