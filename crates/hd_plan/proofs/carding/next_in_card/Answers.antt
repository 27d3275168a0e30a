use Rattle.hd_plan.proofs.CommitCards.{next_within, next_beyond}
use Rattle.hd_plan.proofs.carding.next_in_card.Goals as goal

pub returns-then-next-at-clause-walk : goal.returns-then-next-at-clause-walk
returns-then-next-at-clause-walk c =
    next_within c.args.heap.now c.args.at c.in_ok-next.next c.in_ok-next.ensures.walk c.if-next-at.true

pub returns-else-next-at-clause-walk : goal.returns-else-next-at-clause-walk
returns-else-next-at-clause-walk c =
    next_beyond c.args.heap.now c.args.at c.in_ok-next.next c.in_ok-next.ensures.walk c.if-next-at.false
