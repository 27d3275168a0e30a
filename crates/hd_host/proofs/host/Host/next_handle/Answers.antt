use Rattle.hd_host.proofs.NextHandle.{next_from}
use Rattle.hd_host.proofs.host.Host.next_handle.Goals as goal

pub returns-clause-next : goal.returns-clause-next
returns-clause-next c = next_from c.args.self.now c.args.from c.next_of.result c.next_of.ensures.next
