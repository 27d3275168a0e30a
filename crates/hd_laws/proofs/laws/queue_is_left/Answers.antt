use Rattle.hd_model.proofs.QueueTurns.{queue_is_left}
use Rattle.hd_laws.proofs.laws.queue_is_left.Goals as goal

pub returns : goal.returns
returns c = queue_is_left
