use Rattle.hd_final.proofs.Basics.{IsNonDecreasingBy-from_sort, answers_always, rules}
use Rattle.hd_final.specs.declared.joiners.Joiner.{Joiner as JoinerValue}
use Rattle.hd_final.proofs.joiners.sort.Goals as goal

pub returns-clause-rising : goal.returns-clause-rising
returns-clause-rising c =
    IsNonDecreasingBy-from_sort (λ (j : JoinerValue). j.id.0) _
    (c.sort_unstable_by_key.ensures.sorted (λ (j : JoinerValue). j.id.0)
    (answers_always _ _ _ (λ f a r g h. search rules)))
