use Rattle.std.proofs.Common.{◌+◌, ◌<◌, ◌++◌, ◌∷◌, [], ◌≡◌, ℕ, sym, subst, rules}
use Rattle.std.specs.Option.{option_map_or}
use Rattle.hd_root.proofs.TargetLists.{links_start, links_at, link_inside, link_listed, links_end, before_falls}
use Rattle.hd_root.proofs.graph.list_dependents.Goals as goal

pub loop-next-init : goal.loop-next-init
loop-next-init c = links_start c.last-next.ensures

pub get-link-requires : goal.get-link-requires
get-link-requires c = link_inside (links_at c.in-Some.is c.loop-next.invariant)

pub loop-next-smaller : goal.loop-next-smaller
loop-next-smaller c =
    subst
    (λ o. option_map_or (λ (i : ℕ). i + 1) c.get-link.result.before 0 < option_map_or (λ (i : ℕ). i + 1) o 0)
    (sym c.in-Some.is)
    (before_falls c.args.dependents.now c.get-link.result.target c.in-Some.i c.get-link.result.before
    c.get-link.ensures.before)

pub loop-next-preserved : goal.loop-next-preserved
loop-next-preserved c =
    let pushed : c.push.new.self.items
    ≡ c.loop-next.targets.items ++ c.get-link.result.secondary.0 ∷ [] = search rules in
    link_listed (links_at c.in-Some.is c.loop-next.invariant) c.get-link.result c.get-link.ensures.item
    c.get-link.ensures.before pushed

pub returns : goal.returns
returns c = links_end (links_at c.in_default.is c.loop-next.invariant)
