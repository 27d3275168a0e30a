use Rattle.std.proofs.Common.{rules}
use Rattle.std.proofs.lemmas.List.Sorted.{IsNonDecreasingBy-from_sort, answers_always}
use Rattle.hd_snapshot.specs.Inside.{number_of}
use Rattle.hd_snapshot.proofs.objects.sort.Goals as goal

pub returns-clause-rising : goal.returns-clause-rising
returns-clause-rising c =
    IsNonDecreasingBy-from_sort number_of _
    (c.sort_unstable_by_key.ensures.sorted number_of (answers_always _ _ _ (λ f a r g h. search rules)))
