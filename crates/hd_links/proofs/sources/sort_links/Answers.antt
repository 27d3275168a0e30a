use Rattle.std.proofs.Common.{rules}
use Rattle.std.proofs.lemmas.List.Sorted.{IsNonDecreasingBy-from_sort, answers_always}
use Rattle.hd_links.specs.Sources.{source_number}
use Rattle.hd_links.proofs.sources.sort_links.Goals as goal

pub returns-clause-rising : goal.returns-clause-rising
returns-clause-rising c =
    IsNonDecreasingBy-from_sort source_number _
    (c.sort_unstable_by_key.ensures.sorted source_number (answers_always _ _ _ (λ f a r g h. search rules)))
