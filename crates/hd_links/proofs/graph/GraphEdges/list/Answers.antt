use Rattle.std.proofs.Common.{List, ap, subst, sym, ℕ, ◌++◌, ◌∙◌, ◌≡◌}
use Rattle.std.specs.List.Sorted.{IsNonDecreasingBy}
use Rattle.std.specs.Prelude.{flat_map}
use Rattle.hd_links.specs.{Inside.attached_to, Graph.fields_at, Graph.named, Graph.numbers_of}
use Rattle.hd_links.specs.Sources.{IsPartFrom, source_number}
use Rattle.hd_links.specs.declared.links.Link.{Link}
use Rattle.hd_links.proofs.GraphTargets.{targets_are}
use Rattle.hd_links.proofs.graph.GraphEdges.list.Goals as goal

pub links_from-requires : goal.links_from-requires
links_from-requires c =
    subst (λ (ls : List Link). IsNonDecreasingBy source_number ls) (sym c.deref.ensures.value) c.requires.node

pub returns : goal.returns
returns c =
    let g = c.args.self.now in
    let x = c.args.at in
    let part = c.links_from.result.now in
    let fields : c.push_all.new.numbers.items ≡ flat_map numbers_of (fields_at g x) =
    c.in_ok-push_all.ensures
    ∙ (λ i. c.requires.none i ++ flat_map numbers_of (c.fields_at.ensures i)) in
    targets_are g x part (subst (λ (ls : List Link). IsPartFrom ls (named x) part) c.deref.ensures.value
    c.links_from.ensures) c.requires.node c.push_attached.new.targets.items c.sort.new.numbers.items
    (c.in_ok-push_attached.ensures ∙ ap (λ ys. ys ++ flat_map (attached_to (named x)) part) fields)
    c.sort.ensures.permutation c.sort.ensures.rising
