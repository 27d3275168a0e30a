use Rattle.hd_pool.proofs.Basics.{NumberSet, ap}
use Rattle.hd_pool.proofs.LeastByKind.{opened_least}
use Rattle.hd_pool.proofs.ready.Ready.open.Goals as goal

pub invariant_of-result : goal.invariant_of-result
invariant_of-result c =
    opened_least _ _ _ c.requires (ap (λ (s : NumberSet). s.members) c.in_ok-numbers.ensures) c.in_ok-least.ensures
