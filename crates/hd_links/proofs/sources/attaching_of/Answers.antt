use Rattle.std.proofs.Common.{List, [], rules, subst, ◌++◌, ◌∙◌, ◌≡◌}
use Rattle.std.specs.List.Sorted.{IsPermutation}
use Rattle.std.specs.Prelude.{flat_map}
use Rattle.hd_links.specs.Inside.{attaching_link}
use Rattle.hd_links.specs.declared.links.Link.{Link}
use Rattle.hd_links.proofs.AttachingLinks.{are_attaching}
use Rattle.hd_links.proofs.sources.attaching_of.Goals as goal

pub returns : goal.returns
returns c =
    let none : c.new-attaching.result.items ≡ [] = search rules in
    are_attaching c.args.links.now c.sort_links.new.links.items
    (subst (λ (ls : List Link). IsPermutation ls c.sort_links.new.links.items)
    (c.in_ok-add_attaching.ensures ∙ (λ i. none i ++ flat_map attaching_link c.args.links.now))
    c.sort_links.ensures.permutation) c.sort_links.ensures.rising
