use Rattle.std.proofs.Common.{List, ap, subst, ◌++◌, ◌∙◌, ◌≡◌}
use Rattle.std.specs.Prelude.{IfOk}
use Rattle.hd_seen.specs.Seen.{Picture, view_seen}
use Rattle.hd_seen.specs.declared.SeenRegion.{SeenRegion}
use Rattle.hd_show.specs.{Heaps.RegionCounts, Heaps.generations_text, Heaps.regions_of, Heaps.regions_text, Inside.regions_by}
use Rattle.hd_show.proofs.Cells.{joined_last}
use Rattle.hd_show.proofs.push_heap.Goals as goal

pub returns : goal.returns
returns c =
    let p : Picture = view_seen c.args.seen.now in
    let generations : c.push_generations.new.text
    ≡ c.args.text.now ++ generations_text (regions_of p) p.regions =
    c.in_ok-push_generations.ensures
    ∙ ap (λ (rs : List SeenRegion). c.args.text.now ++ generations_text (regions_by c.in_ok-sums.sums) rs) c.deref.ensures.value
    ∙ ap (λ (r : RegionCounts). c.args.text.now ++ generations_text r p.regions) c.in_ok-sums.ensures in
    joined_last c.push_regions.result c.args.text.now (generations_text (regions_of p) p.regions)
    (regions_text (regions_of p) p.regions) c.push_generations.new.text c.push_regions.new.text generations
    (subst (λ (rs : List SeenRegion). IfOk c.push_regions.result
    (λ _. c.push_regions.new.text ≡ c.push_generations.new.text ++ regions_text (regions_of p) rs))
    c.deref-2.ensures.value
    (subst (λ (r : RegionCounts). IfOk c.push_regions.result
    (λ _. c.push_regions.new.text ≡ c.push_generations.new.text ++ regions_text r c.deref-2.result.now))
    c.in_ok-sums.ensures c.push_regions.ensures))
