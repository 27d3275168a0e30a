use Rattle.std.proofs.Common.{rules}
use Rattle.std.proofs.lemmas.List.Sorted.{IsNonDecreasingBy-from_sort, answers_always}
use Rattle.hd_root.specs.Inside.{id_of}
use Rattle.hd_root.proofs.anchors.sort.Goals as goal

pub returns-clause-rising : goal.returns-clause-rising
returns-clause-rising c =
    IsNonDecreasingBy-from_sort id_of _
    (c.sort_unstable_by_key.ensures.sorted id_of (answers_always _ _ _ (λ f a r g h. search rules)))
