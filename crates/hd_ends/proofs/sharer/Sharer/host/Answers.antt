use Rattle.hd_ends.proofs.SharerTurns.{sharer_lent}
use Rattle.hd_ends.proofs.sharer.Sharer.host.Goals as goal

pub invariant_of-self-lent : goal.invariant_of-self-lent
invariant_of-self-lent c = λ w. sharer_lent c.self.invariant c.value-behind.ensures.value w
