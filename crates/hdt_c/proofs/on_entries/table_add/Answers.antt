use Rattle.hdt_c.proofs.Comings.{by_status}
use Rattle.hdt_c.proofs.on_entries.table_add.Goals as goal

pub returns : goal.returns
returns c = by_status tt (λ done ok. (done, ok)) c.table_add.result c.status.ensures c.table_add.ensures.does
