use Rattle.hd_dep.proofs.Basics.{IsNonDecreasingBy-from_sort, answers_always, rules, target_of}
use Rattle.hd_dep.proofs.waiting.sort.Goals as goal

pub returns-clause-rising : goal.returns-clause-rising
returns-clause-rising c =
    IsNonDecreasingBy-from_sort target_of _
    (c.sort_unstable_by_key.ensures.sorted target_of (answers_always _ _ _ (λ f a r g h. search rules)))
