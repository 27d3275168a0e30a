use Rattle.hdt_c.proofs.Comings.{by_status}
use Rattle.hdt_c.proofs.on_objects.value_set.Goals as goal

pub returns : goal.returns
returns c = by_status tt (λ done ok. (done, ok)) c.value_set.result c.status.ensures c.value_set.ensures.does
