use Rattle.std.proofs.Common.{rules}
use Rattle.std.proofs.lemmas.List.Sorted.{IsNonDecreasingBy-from_sort, answers_always}
use Rattle.hd_links.specs.Graph.{itself}
use Rattle.hd_links.proofs.graph.sort.Goals as goal

pub returns-clause-rising : goal.returns-clause-rising
returns-clause-rising c =
    IsNonDecreasingBy-from_sort itself _
    (c.sort_unstable_by_key.ensures.sorted itself (answers_always _ _ _ (λ f a r g h. search rules)))
